-- `division::rows::by_rows` meets its contract. The loop's invariant: the sum and the rows of the bytes that are left are
-- the rows of the field.
use mathlib.Core.Path.{◌≡◌}
use Prim.Native.Nat.{◌-◌, ◌*◌}
use lib.Bits.{bit_xor}
use lib.ListN.{length}
use Rattle.division.specs.Ways.{row_sum}
use Rattle.message.specs.Message.{number}
use Rattle.division.proofs.rows.by_rows.Given as goal

abbrev pub invariant-loop-i : goal.invariant-loop-i
invariant-loop-i l =
    bit_xor l.sum (row_sum (8 * (length l.field - l.i)) (number l.field)) ≡ row_sum (8 * length l.field) (number l.field)
