-- Folding, by which one message is divided without a table. Only private functions cite this file: no public contract names a
-- fold. That it leaves the remainder as it is, is `folded-remainder` (proofs/Folds.antt).
use Rattle.std.specs.Prelude.{ℕ, ◌+◌, ◌*◌, ◌/◌, ◌%◌, ◌^◌, ◌≤◌}
use Rattle.std.specs.Int.Bits.{bit_xor}
use Rattle.division.specs.Polynomial.{product}

-- x^12 + x^11 + x^10 + x^4 + x^3 + x + 1, which is x^25 + (x + 1)·G, and its square: they have the remainders of x^25 and x^50.
abbrev pub x25 : ℕ
x25 = 0x1C1B

abbrev pub x50 : ℕ
x50 = 0x1500145

-- The first at k = 1 and the second at k = 2.
abbrev pub powers : ℕ → ℕ
powers k = 1 + 2 ^ k + 2 ^ (3 * k) + 2 ^ (4 * k) + 2 ^ (10 * k) + 2 ^ (11 * k) + 2 ^ (12 * k)

abbrev pub IsStep : ℕ → Type 0
IsStep k = (1 ≤ k) × (k ≤ 2)

-- What v has above x^k, times p, added to what it has below.
unfoldable pub folded : ℕ → ℕ → ℕ → ℕ
folded k p v = bit_xor (v % 2 ^ k) (product (v / 2 ^ k) p)
