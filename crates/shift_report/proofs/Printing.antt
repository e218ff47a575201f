-- What sift printed, read again: no column has a space and no line a line feed in it, since digits and words are above both,
-- so the lines and columns of the text are those that were printed.
use mathlib.Core.Path.{◌≡◌, refl, sym, ap, ap₂, ◌∙◌}
use mathlib.Core.Bool.{Bool, true, ◌&&◌, and-eq-true_iff}
use mathlib.Core.List.{List, [], ◌∷◌, ◌++◌, map, append-nil}
use Prim.Native.Nat.{ℕ, ◌+◌, ◌<◌, ◌≤◌}
use native.Mathlib.Omega.{arith}
use lib.ListN.{length, drop}
use Rattle.text.specs.Ascii.{ascii, space, line_feed}
use Rattle.text.specs.Digits.{hex_text, decimal_text}
use Rattle.text.proofs.Laws.{above, above-cons, above-append, above_lower, hex_above, decimal-above, no_more}
use Rattle.reading.specs.Lines.{lines, columns, before, behind}
use Rattle.reading.proofs.Laws.{column_alone, column_then, line_then, split_line, no_line_left}
use Rattle.verdicts.specs.Columns.{lacking, spaced}
use Rattle.verdicts.proofs.Laws.{spaced-nil, spaced-cons}
use Rattle.report.specs.Sift.{answer_columns, output_lines, sift_output}
use Rattle.report.proofs.Laws.{no_output, output_line_lem, output_read}
use Rattle.shift_report.specs.Tally.{Row, rows, page, tally_output}
use Rattle.shift_report.specs.Printed.{row_of, rows_in, printed_rows}
use Rattle.shift_report.proofs.Pages.{output_page, output_too_long}
use Rattle.shift_report.proofs.Answered.{Kind, kind_row, row-shown}
use Rattle.shift_report.proofs.Answered.Kind.{is_clean, is_sole, is_several, is_dense, is_no_fit, is_refused, is_malformed}

-- ---- rows whose columns are above the space

unfoldable plain : Row → Bool
plain [] = true
plain (c ∷ cs) = above space c && plain cs

-- the columns of a row, whose answer and mark are words
plain_row : (answer window bits mark message : List ℕ) → above space answer ≡ true → above space window ≡ true → above space bits ≡ true
    → above space mark ≡ true → above space message ≡ true → plain (answer ∷ window ∷ bits ∷ mark ∷ message ∷ []) ≡ true
unfolding plain
plain_row answer window bits mark message a w b k m = ap₂ ◌&&◌ a (ap₂ ◌&&◌ w (ap₂ ◌&&◌ b (ap₂ ◌&&◌ k (ap₂ ◌&&◌ m refl))))

number-plain : (n : ℕ) → above space (decimal_text n) ≡ true
number-plain n = decimal-above space n (omega arith)

message-plain : (m : List ℕ) → above space (hex_text m) ≡ true
message-plain m = hex_above space m (omega arith)

kind_plain : (k : Kind) (m : List ℕ) → plain (kind_row k m) ≡ true
unfolding above
kind_plain is_clean m = plain_row (ascii "clean") lacking lacking lacking (hex_text m) refl refl refl refl (message-plain m)
kind_plain (is_sole w b) m = plain_row (ascii "corrected") (decimal_text w) (decimal_text b) (ascii "sole") (hex_text m) refl (number-plain w) (number-plain b) refl (message-plain m)
kind_plain (is_several w b) m = plain_row (ascii "corrected") (decimal_text w) (decimal_text b) (ascii "several") (hex_text m) refl (number-plain w) (number-plain b) refl (message-plain m)
kind_plain (is_dense w) m = plain_row (ascii "dense") (decimal_text w) lacking lacking (hex_text m) refl (number-plain w) refl refl (message-plain m)
kind_plain is_no_fit m = plain_row (ascii "nofit") lacking lacking lacking (hex_text m) refl refl refl refl (message-plain m)
kind_plain (is_refused n) m = plain_row (ascii "refused") (decimal_text n) lacking lacking (hex_text m) refl (number-plain n) refl refl (message-plain m)
kind_plain is_malformed m = plain_row (ascii "malformed") lacking lacking lacking lacking refl refl refl refl refl

answer-plain : (cs : List (List ℕ)) → plain (answer_columns cs) ≡ true
answer-plain cs =
    let s = row-shown cs in
    ap plain s.is ∙ kind_plain s.kind s.after

-- ---- a line

columns-printed : (a : List ℕ) (cs : Row) → above space a ≡ true → plain cs ≡ true → columns (a ++ spaced cs) ≡ a ∷ cs
unfolding plain
columns-printed a [] e p = ap (λ (t : List ℕ). columns (a ++ t)) spaced-nil ∙ ap columns (append-nil a) ∙ column_alone a e
columns-printed a (c ∷ cs) e p =
    let both = (and-eq-true_iff (above space c) (plain cs)).0 p in
    ap (λ (t : List ℕ). columns (a ++ t)) (spaced-cons c cs)
    ∙ column_then a (c ++ spaced cs) e
    ∙ ap (λ (r : Row). a ∷ r) (columns-printed c cs both.0 both.1)

spaced-above : (cs : Row) → plain cs ≡ true → above line_feed (spaced cs) ≡ true
unfolding plain above
spaced-above [] p = ap (above line_feed) spaced-nil
spaced-above (c ∷ cs) p =
    let both = (and-eq-true_iff (above space c) (plain cs)).0 p in
    ap (above line_feed) (spaced-cons c cs)
    ∙ above-cons line_feed space (c ++ spaced cs) (omega arith)
    (above-append line_feed c (spaced cs) (above_lower line_feed space c (omega arith) both.0) (spaced-above cs both.1))

-- the line that sift prints for a line, up to its line feed
abbrev pub line_text : ℕ → List ℕ → List ℕ
line_text n l = decimal_text n ++ spaced (answer_columns (columns l))

pub line_columns : (n : ℕ) (l : List ℕ) → columns (line_text n l) ≡ decimal_text n ∷ answer_columns (columns l)
line_columns n l = columns-printed (decimal_text n) (answer_columns (columns l)) (number-plain n) (answer-plain (columns l))

-- ---- the lines

pub output_lines_lem : (n : ℕ) (l : List ℕ) (ls : List (List ℕ)) → lines (output_lines n (l ∷ ls)) ≡ line_text n l ∷ lines (output_lines (n + 1) ls)
output_lines_lem n l ls =
    ap lines (output_line_lem n l ls)
    ∙ line_then (line_text n l) (output_lines (n + 1) ls)
    (above-append line_feed (decimal_text n) (spaced (answer_columns (columns l))) (decimal-above line_feed n (omega arith)) (spaced-above (answer_columns (columns l)) (answer-plain (columns l))))

pub no_output_lines : (n : ℕ) → lines (output_lines n []) ≡ []
no_output_lines n = ap lines (no_output n) ∙ no_line_left [] 0 (omega arith)

-- behind the header
pub printed-lines : (input : List ℕ) → length input ≤ 65536 → drop 1 (lines (sift_output input)) ≡ lines (output_lines 1 (lines input))
unfolding above
printed-lines input h =
    ap (λ (t : List ℕ). drop 1 (lines t)) (sym (output_read input h))
    ∙ ap (drop 1) (line_then (ascii "line answer window bits mark message") (output_lines 1 (lines input)) refl)

lines-behind : (s : List ℕ) → lines (behind line_feed s) ≡ drop 1 (lines s)
lines-behind [] =
    let none : lines [] ≡ [] = no_line_left [] 0 (omega arith) in
    ap lines (no_more [] (length (before line_feed []) + 1) (omega arith)) ∙ none ∙ sym (ap (drop 1) none)
lines-behind (x ∷ s) = sym (ap (drop 1) (split_line (x ∷ s) (length (before line_feed (x ∷ s))) refl (omega arith)))

-- ---- the rows

rows-printed : (n : ℕ) (ls : List (List ℕ)) → map row_of (lines (output_lines n ls)) ≡ map (λ (l : List ℕ). answer_columns (columns l)) ls
unfolding row_of
rows-printed n [] = ap (map row_of) (no_output_lines n)
rows-printed n (l ∷ ls) =
    ap (map row_of) (output_lines_lem n l ls)
    ∙ ap₂ (λ (r : Row) (rs : List Row). r ∷ rs) (ap (drop 1) (line_columns n l)) (rows-printed (n + 1) ls)

-- the rows in what sift printed are those of the input
pub rows_of_printed : (input : List ℕ) → length input ≤ 65536 → printed_rows (sift_output input) ≡ rows input
unfolding printed_rows rows_in rows
rows_of_printed input h =
    ap (map row_of) (lines-behind (sift_output input) ∙ printed-lines input h) ∙ rows-printed 1 (lines input)

-- so their page is the output
pub printed_page : (input : List ℕ) → length input ≤ 65536 → page (printed_rows (sift_output input)) ≡ tally_output input
printed_page input h = ap page (rows_of_printed input h) ∙ output_page input h

pub too_long_length : (input : List ℕ) → 65536 < length input → length (tally_output input) ≤ 192
too_long_length input h = omega (arith, ap length (output_too_long input (ascii "too long\n") refl h))

pub ruleset outputs = (printed_page, output_too_long, too_long_length)
