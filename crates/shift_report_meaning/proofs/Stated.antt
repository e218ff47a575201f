-- The statements of specs/Counting.antt. Each row is of one of seven kinds, and each kind counts for one of the seven names;
-- what is counted in the printed text is counted line by line.
use mathlib.Core.Path.{◌≡◌, refl, sym, ap, ap₂, ◌∙◌}
use mathlib.Core.Bool.{Bool, true, false, cond}
use mathlib.Core.List.{List, [], ◌∷◌, map}
use Prim.Native.Nat.{ℕ, ◌+◌}
use native.Mathlib.Omega.{arith}
use lib.ListN.{length, length-map}
use Rattle.text.specs.Ascii.{ascii}
use Rattle.reading.specs.Lines.{lines, columns}
use Rattle.report.specs.Sift.{answer_columns, output_lines}
use Rattle.shift_report.specs.Tally.{Row, rows, same_text, column_at, label, one, how_many, names}
use Rattle.shift_report_meaning.specs.Counting.{total, FirstIsTheSum, FirstIsTheLines, counts_for, printed_count, printed, CountsThePrinted, FirstCountsThePrinted}
use Rattle.shift_report.proofs.Laws.{Kind, kind_row, row-shown, line_text, line_columns, output_lines_lem, no_output_lines, printed-lines}
use Rattle.shift_report.proofs.Answered.Kind.{is_clean, is_sole, is_several, is_dense, is_no_fit, is_refused, is_malformed}

abbrev answered : List ℕ → Row
answered l = answer_columns (columns l)

-- ---- the sum

-- how many of some names a text is
unfoldable hits : List ℕ → List (List ℕ) → ℕ
hits l [] = 0
hits l (name ∷ others) = one (same_text l name) + hits l others

total-cons : (r : Row) (rs : List Row) (ns : List (List ℕ)) → total (r ∷ rs) ns ≡ hits (label r) ns + total rs ns
unfolding total hits how_many
total-cons r rs [] = refl
total-cons r rs (name ∷ others) = omega (arith, total-cons r rs others)

kind_once : (k : Kind) (m : List ℕ) → hits (label (kind_row k m)) names ≡ 1
unfolding hits label same_text
kind_once is_clean m = refl
kind_once (is_sole w b) m = refl
kind_once (is_several w b) m = refl
kind_once (is_dense w) m = refl
kind_once is_no_fit m = refl
kind_once (is_refused n) m = refl
kind_once is_malformed m = refl

answer_once : (cs : List (List ℕ)) → hits (label (answer_columns cs)) names ≡ 1
answer_once cs =
    let s = row-shown cs in
    ap (λ (r : Row). hits (label r) names) s.is ∙ kind_once s.kind s.after

no_total : (ns : List (List ℕ)) → total [] ns ≡ 0
unfolding total how_many
no_total [] = refl
no_total (name ∷ others) = omega (arith, no_total others)

sum_of : (ls : List (List ℕ)) → length (map answered ls) ≡ total (map answered ls) names
sum_of [] = sym (no_total names)
sum_of (l ∷ ls) =
    omega (arith, sum_of ls, answer_once (columns l), total-cons (answered l) (map answered ls) names)

pub first_is_the_sum : FirstIsTheSum
unfolding FirstIsTheSum rows
first_is_the_sum input = sum_of (lines input)

pub first_is_the_lines : FirstIsTheLines
unfolding FirstIsTheLines rows
first_is_the_lines input = length-map (lines input) answered

-- ---- in the printed text

picked_name : (t : Bool) (a b name : List ℕ) → same_text (cond t a b) name ≡ cond t (same_text a name) (same_text b name)
picked_name true a b name = refl
picked_name false a b name = refl

-- a line counts as its row does
line_counts : (name : List ℕ) (n : ℕ) (l : List ℕ) → same_text (label (answered l)) name ≡ counts_for name (columns (line_text n l))
unfolding label
line_counts name n l =
    let row : Row = answered l in
    picked_name (same_text (column_at row 0) (ascii "corrected")) (column_at row 3) (column_at row 0) name
    ∙ sym (ap (counts_for name) (line_columns n l))

count_of : (name : List ℕ) (n : ℕ) (ls : List (List ℕ)) → how_many name (map answered ls) ≡ printed_count name (map columns (lines (output_lines n ls)))
unfolding how_many printed_count
count_of name n [] = sym (ap (λ (ts : List (List ℕ)). printed_count name (map columns ts)) (no_output_lines n))
count_of name n (l ∷ ls) =
    ap₂ ◌+◌ (ap one (line_counts name n l)) (count_of name (n + 1) ls)
    ∙ sym (ap (λ (ts : List (List ℕ)). printed_count name (map columns ts)) (output_lines_lem n l ls))

pub counts_the_printed : CountsThePrinted
unfolding CountsThePrinted rows
counts_the_printed name input h =
    count_of name 1 (lines input) ∙ sym (ap (λ (ts : List (List ℕ)). printed_count name (map columns ts)) (printed-lines input h))

length_of : (n : ℕ) (ls : List (List ℕ)) → length (map answered ls) ≡ length (map columns (lines (output_lines n ls)))
length_of n [] = sym (ap (λ (ts : List (List ℕ)). length (map columns ts)) (no_output_lines n))
length_of n (l ∷ ls) =
    omega (arith, length_of (n + 1) ls, ap (λ (ts : List (List ℕ)). length (map columns ts)) (output_lines_lem n l ls))

pub first-counts_the_printed : FirstCountsThePrinted
unfolding FirstCountsThePrinted rows
first-counts_the_printed input h =
    length_of 1 (lines input) ∙ sym (ap (λ (ts : List (List ℕ)). length (map columns ts)) (printed-lines input h))
