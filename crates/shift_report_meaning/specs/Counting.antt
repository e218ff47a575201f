-- What is stated of the counts (document 02, Point 9).
use Rattle.std.specs.Prelude.{ℕ, ◌+◌, ◌≤◌, ◌≡◌, List, [], ◌∷◌, map, Bool, cond, length, drop}
use Rattle.text.specs.Ascii.{ascii}
use Rattle.reading.specs.Lines.{lines, columns}
use Rattle.report.specs.Sift.{sift_output}
use Rattle.shift_report.specs.Tally.{Row, rows, same_text, column_at, one, how_many, names}

-- the numbers of some names, added up
unfoldable pub total : List Row → List (List ℕ) → ℕ
total rs [] = 0
total rs (name ∷ others) = how_many name rs + total rs others

-- 'The first is the sum of the rest'
unfoldable pub FirstIsTheSum : Type 0
FirstIsTheSum = (input : List ℕ) → length (rows input) ≡ total (rows input) names

-- 'and the input's number of lines'
unfoldable pub FirstIsTheLines : Type 0
FirstIsTheLines = (input : List ℕ) → length (rows input) ≡ length (lines input)

-- A printed line counts for a name by its second column, and a corrected one by its fifth.
abbrev pub counts_for : List ℕ → Row → Bool
counts_for name line = cond (same_text (column_at line 1) (ascii "corrected")) (same_text (column_at line 4) name) (same_text (column_at line 1) name)

unfoldable pub printed_count : List ℕ → List Row → ℕ
printed_count name [] = 0
printed_count name (l ∷ ls) = one (counts_for name l) + printed_count name ls

-- the lines that sift prints after its header, taken apart into columns
abbrev pub printed : List ℕ → List Row
printed input = map columns (drop 1 (lines (sift_output input)))

-- 'each of the rest counts the sift lines with that answer': in the printed text itself
unfoldable pub CountsThePrinted : Type 0
CountsThePrinted = (name input : List ℕ) → length input ≤ 65536 → how_many name (rows input) ≡ printed_count name (printed input)

-- and there are as many of them as the first line says
unfoldable pub FirstCountsThePrinted : Type 0
FirstCountsThePrinted = (input : List ℕ) → length input ≤ 65536 → length (rows input) ≡ length (printed input)
