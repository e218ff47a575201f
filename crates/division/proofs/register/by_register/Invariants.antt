-- `division::register::by_register` meets its contract. The loop's invariant: the register after the bytes that are left
-- will be the register after the field.
use mathlib.Core.Path.{◌≡◌}
use Prim.Native.Nat.{◌-◌, ◌*◌}
use lib.ListN.{length}
use Rattle.division.specs.Ways.{register_from, register_way}
use Rattle.message.specs.Message.{number}
use Rattle.division.proofs.register.by_register.Given as goal

abbrev pub invariant-loop-byte : goal.invariant-loop-byte
invariant-loop-byte l =
    register_from l.state.word (8 * (length l.field - l.byte-index)) (number l.field) ≡ register_way (8 * length l.field) (number l.field)
