-- The bits of an altitude code (Annex 10 Volume IV: AC; document 02, Point 1), and the C1 C2 C4 of the 100-foot code.
use Rattle.std.specs.Prelude.{ℕ, ◌+◌, ◌*◌, ◌-◌, ◌/◌, ◌%◌, ◌^◌, cond, List, [], ◌∷◌, eqb, length, get_or}

-- Binary digits as a number, the first on top; and digit i of a number, from 0 for the lowest.
unfoldable pub binary : List ℕ → ℕ
binary [] = 0
binary (b ∷ bs) = b * 2 ^ length bs + binary bs

unfoldable pub digit : ℕ → ℕ → ℕ
digit k i = k / 2 ^ i % 2

-- 'in this bit order: C1 A1 C2 A2 C4 A4 M B1 Q B2 D2 B4 D4': the bits of a code, which is a number of 13 bits with C1 on top.
abbrev pub C1 : ℕ → ℕ
C1 k = digit k 12

abbrev pub A1 : ℕ → ℕ
A1 k = digit k 11

abbrev pub C2 : ℕ → ℕ
C2 k = digit k 10

abbrev pub A2 : ℕ → ℕ
A2 k = digit k 9

abbrev pub C4 : ℕ → ℕ
C4 k = digit k 8

abbrev pub A4 : ℕ → ℕ
A4 k = digit k 7

abbrev pub M : ℕ → ℕ
M k = digit k 6

abbrev pub B1 : ℕ → ℕ
B1 k = digit k 5

abbrev pub Q : ℕ → ℕ
Q k = digit k 4

abbrev pub B2 : ℕ → ℕ
B2 k = digit k 3

abbrev pub D2 : ℕ → ℕ
D2 k = digit k 2

abbrev pub B4 : ℕ → ℕ
B4 k = digit k 1

abbrev pub D4 : ℕ → ℕ
D4 k = digit k 0

-- 'With M = 0 and Q = 1 the other eleven bits are a number N, in order'
unfoldable pub eleven_bits : ℕ → ℕ
eleven_bits k = binary (C1 k ∷ A1 k ∷ C2 k ∷ A2 k ∷ C4 k ∷ A4 k ∷ B1 k ∷ B2 k ∷ D2 k ∷ B4 k ∷ D4 k ∷ [])

-- 'D2 D4 A1 A2 A4 B1 B2 B4, D2 on top', and C1 C2 C4
unfoldable pub gray_bits : ℕ → ℕ
gray_bits k = binary (D2 k ∷ D4 k ∷ A1 k ∷ A2 k ∷ A4 k ∷ B1 k ∷ B2 k ∷ B4 k ∷ [])

unfoldable pub c_bits : ℕ → ℕ
c_bits k = binary (C1 k ∷ C2 k ∷ C4 k ∷ [])

-- 'C1 C2 C4 = 001, 011, 010, 110, 100', the patterns of five altitudes in a row
abbrev pub c_patterns : List ℕ
c_patterns = 1 ∷ 3 ∷ 2 ∷ 6 ∷ 4 ∷ []

-- 'for odd g that list of patterns is reversed': place j of the five, counted from the other end where g is odd
unfoldable pub in_order : ℕ → ℕ → ℕ
in_order g j = cond (eqb (g % 2) 0) j (4 - j)

unfoldable pub c_pattern : ℕ → ℕ → ℕ
c_pattern g j = get_or c_patterns (in_order g j) 0
