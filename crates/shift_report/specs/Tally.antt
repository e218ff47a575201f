-- The whole output of tally as a definition of its whole input (document 02, Point 9: 'eight lines `name number`'). It counts
-- the rows that sift prints, so it is said over sift's own definition (report/specs/Sift.antt).
use Rattle.std.specs.Prelude.{ℕ, ◌+◌, List, [], ◌∷◌, ◌++◌, map, Bool, true, false, cond, ◌&&◌, eqb, leb, length, get_or}
use Rattle.text.specs.Ascii.{ascii, space, line_feed}
use Rattle.text.specs.Digits.{decimal_text}
use Rattle.reading.specs.Lines.{lines, columns}
use Rattle.report.specs.Sift.{answer_columns}

-- ---- the rows

-- a row is the columns of an output line of sift after the line's number: answer, window, bits, mark, message
abbrev pub Row : Type 0
Row = List (List ℕ)

-- those that sift prints, one for each line
unfoldable pub rows : List ℕ → List Row
rows input = map (λ (l : List ℕ). answer_columns (columns l)) (lines input)

-- ---- what is counted

unfoldable pub same_text : List ℕ → List ℕ → Bool
same_text [] [] = true
same_text [] (b ∷ t) = false
same_text (a ∷ s) [] = false
same_text (a ∷ s) (b ∷ t) = eqb a b && same_text s t

-- the column at a place, and nothing where there is none
abbrev pub column_at : Row → ℕ → List ℕ
column_at row k = get_or row k []

-- the name that a row counts for: its answer; 'sole and several are the corrected ones', by their mark
unfoldable pub label : Row → List ℕ
label row = cond (same_text (column_at row 0) (ascii "corrected")) (column_at row 3) (column_at row 0)

abbrev pub one : Bool → ℕ
one true = 1
one false = 0

-- how many rows count for a name
unfoldable pub how_many : List ℕ → List Row → ℕ
how_many name [] = 0
how_many name (r ∷ rs) = one (same_text (label r) name) + how_many name rs

-- ---- the page

-- `name number`, and the line feed
unfoldable pub page_line : List ℕ → ℕ → List ℕ
page_line name n = name ++ (space ∷ []) ++ decimal_text n ++ (line_feed ∷ [])

-- the names after `lines`, in their order
abbrev pub names : List (List ℕ)
names = ascii "clean" ∷ ascii "sole" ∷ ascii "several" ∷ ascii "dense" ∷ ascii "nofit" ∷ ascii "refused" ∷ ascii "malformed" ∷ []

-- a line for each of some names
unfoldable pub counts : List Row → List (List ℕ) → List ℕ
counts rs [] = []
counts rs (name ∷ others) = page_line name (how_many name rs) ++ counts rs others

unfoldable pub page : List Row → List ℕ
page rs = page_line (ascii "lines") (length rs) ++ counts rs names

-- 'Input too long gives only `too long`.'
unfoldable pub tally_output : List ℕ → List ℕ
tally_output input = cond (leb (length input) 65536) (page (rows input)) (ascii "too long\n")
