-- The three ways to R of document 01 ('Messages and division'), as computations on a field of any length, and the statement
-- that they agree. The workers of src/register.rt, src/byte_table.rt and src/rows.rt promise these computations; that what
-- they compute is R follows from the statement alone.
use Rattle.std.specs.Prelude.{ℕ, zero, suc, ◌+◌, ◌*◌, ◌/◌, ◌%◌, ◌^◌, ◌≡◌, List, [], ◌∷◌, length}
use Rattle.std.specs.Int.Bits.{bit_xor}
use Rattle.division.specs.Division.{remainder, shift_in, parity}
use Rattle.message.specs.Message.{number, Bytes}

-- The register, one bit at a step (document 01, the first way; ATC-49, II-2.1): from the register r, the coefficients of m
-- below x^k, the highest first, as they are sent.
unfoldable pub register_from : ℕ → ℕ → ℕ → ℕ
register_from r zero m = r
register_from r (suc k) m = register_from (shift_in 1 r (m / 2 ^ k % 2)) k m

-- The same with 0 in the register before the first bit.
unfoldable pub register_way : ℕ → ℕ → ℕ
register_way k m = register_from 0 k m

-- The byte table (document 01, the second way): the register's top byte leaves, and together with the byte that enters
-- picks one of the 256 remainders.
unfoldable pub table_step : ℕ → ℕ → ℕ
table_step r b = bit_xor (r % 2 ^ 16 * 2 ^ 8) (parity (bit_xor (r / 2 ^ 16) b))

-- The bytes of a field one after the other, from the register r.
unfoldable pub table_way : ℕ → List ℕ → ℕ
table_way r [] = r
table_way r (b ∷ bs) = table_way (table_step r b) bs

-- The rows (document 01, the third way; ATC-40, section 5 and Table II): the sum of one row for each coefficient 1 of m
-- below x^k. Here m stands x^e above the end of the field, so the row of its x^j is the remainder of x^(24+e+j).
unfoldable pub rows_from : ℕ → ℕ → ℕ → ℕ
rows_from e zero m = 0
rows_from e (suc k) m = bit_xor (m / 2 ^ k % 2 * remainder (2 ^ (24 + e + k))) (rows_from e k m)

-- The same for a whole field of k bits.
unfoldable pub row_sum : ℕ → ℕ → ℕ
row_sum k m = rows_from 0 k m

-- They agree, and give R, on every field of any length (`three_ways`, proofs/Fields.antt).
unfoldable pub ThreeWays : Type 0
ThreeWays =
    (f : List ℕ) → Bytes f
    → (register_way (8 * length f) (number f) ≡ parity (number f))
    × (table_way 0 f ≡ parity (number f))
    × (row_sum (8 * length f) (number f) ≡ parity (number f))
