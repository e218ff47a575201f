-- `division::register::shift_byte` meets its contract. The loop's invariant: the register after the bits that are left will
-- be the register after the byte.
use mathlib.Core.Path.{◌≡◌}
use Prim.Native.Nat.{◌-◌}
use Rattle.division.specs.Ways.{register_from}
use Rattle.division.proofs.register.shift_byte.Given as goal

abbrev pub invariant-loop-taken : goal.invariant-loop-taken
invariant-loop-taken l = register_from l.state.word (8 - l.taken) l.bits ≡ register_from l.initial.state.word 8 l.bits
