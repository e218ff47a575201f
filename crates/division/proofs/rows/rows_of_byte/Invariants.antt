-- `division::rows::rows_of_byte` meets its contract. The loop's invariant: the sum and the rows of the bits that are left
-- are the rows of the byte.
use mathlib.Core.Path.{◌≡◌}
use Prim.Native.Nat.{◌-◌}
use lib.Bits.{bit_xor}
use Rattle.division.specs.Ways.{rows_from}
use Rattle.division.proofs.rows.rows_of_byte.Given as goal

abbrev pub invariant-loop-taken : goal.invariant-loop-taken
invariant-loop-taken l = bit_xor l.sum (rows_from (80 - l.at) (8 - l.taken) l.bits) ≡ rows_from (80 - l.at) 8 l.bits
