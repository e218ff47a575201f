-- The lines of a text and the columns of a line (document 01, 'The program sift').
use Rattle.std.specs.Prelude.{ℕ, ◌+◌, List, [], ◌∷◌, cond, length, drop, eqb}
use Rattle.text.specs.Ascii.{space, line_feed}

-- the byte b in front of the first of some pieces
abbrev pub in_first : ℕ → List (List ℕ) → List (List ℕ)
in_first b [] = (b ∷ []) ∷ []
in_first b (p ∷ ps) = (b ∷ p) ∷ ps

-- 'A line ends at a line feed; a last piece without one is a line if it has a byte.' The line feed is no part of the line.
unfoldable pub lines : List ℕ → List (List ℕ)
lines [] = []
lines (b ∷ bs) = cond (eqb b line_feed) ([] ∷ lines bs) (in_first b (lines bs))

-- 'parted by one space': each space ends a column and starts the next, so two spaces in a row have an empty column
-- between them, and an empty line is one empty column.
unfoldable pub columns : List ℕ → List (List ℕ)
columns [] = [] ∷ []
columns (b ∷ bs) = cond (eqb b space) ([] ∷ columns bs) (in_first b (columns bs))

-- the bytes in front of the first s, or all where there is none
unfoldable pub before : ℕ → List ℕ → List ℕ
before s [] = []
before s (b ∷ bs) = cond (eqb b s) [] (b ∷ before s bs)

-- what stands behind the first s
abbrev pub behind : ℕ → List ℕ → List ℕ
behind s bs = drop (length (before s bs) + 1) bs
