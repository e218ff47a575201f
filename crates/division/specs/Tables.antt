-- The byte table, and the rules of the two tables, which the private functions that are lent one require of it.
use Rattle.std.specs.Prelude.{ℕ, zero, suc, ◌-◌, ◌^◌, ◌<◌, ◌≡◌, List, [], ◌∷◌, get_or}
use Rattle.division.specs.Division.{remainder, parity}

-- R of each byte from k on, of so many.
unfoldable pub parities_from : ℕ → ℕ → List ℕ
parities_from k zero = []
parities_from k (suc n) = parity k ∷ parities_from (suc k) n

-- 'a table of 256 remainders, one for each byte value' (document 01)
unfoldable pub byte_table : List ℕ
byte_table = parities_from 0 256

-- Entry k of the byte table is R of the one byte k.
unfoldable pub IsByteTable : List ℕ → Type 0
IsByteTable t = (k : ℕ) → k < 256 → get_or t k 0 ≡ parity k

-- Row j of the 88, counted from 0, is the remainder for bit j + 1 of a long field: bit 1 stands for x^87 of the field,
-- so for x^111 of the message (ATC-40, Table II, 112-bit column).
unfoldable pub IsRowTable : List ℕ → Type 0
IsRowTable t = (j : ℕ) → j < 88 → get_or t j 0 ≡ remainder (2 ^ (111 - j))
