-- Counting the lines of a text.
use mathlib.Core.Path.{◌≡◌, refl, ap}
use mathlib.Core.Bool.{Bool, true, false, cond}
use mathlib.Core.List.{List, [], ◌∷◌, map}
use Prim.Native.Nat.{ℕ, suc, ◌+◌, ◌≤◌}
use native.Mathlib.Omega.{arith}
use lib.ListN.{length}
use Rattle.std.specs.List.{filter}
use Rattle.reading.specs.Lines.{lines}
use Rattle.reading.proofs.Laws.{lines_size-le, length-le-lines_size}
use Rattle.shift_report.specs.Tally.{Row, same_text, label, one, how_many}
use Rattle.shift_report.specs.Printed.{row_of, rows_in}

length-map : (ls : List (List ℕ)) → length (map row_of ls) ≡ length ls
length-map [] = refl
length-map (l ∷ ls) = ap suc (length-map ls)

pub length-rows_in : (text : List ℕ) → length (lines text) ≡ length (rows_in text)
unfolding rows_in
length-rows_in text = omega (arith, length-map (lines text))

-- those that a test of their row finds
pub length-filter_rows : (name : List ℕ) (ls : List (List ℕ))
    → length (filter (λ l. same_text (label (row_of l)) name) ls) ≡ how_many name (map row_of ls)
unfolding how_many
length-filter_rows name [] = refl
length-filter_rows name (l ∷ ls) = cases (same_text (label (row_of l)) name) (length-filter_rows name ls)
  where
    rest : List (List ℕ)
    rest = filter (λ l. same_text (label (row_of l)) name) ls

    cases : (t : Bool) → length rest ≡ how_many name (map row_of ls) → length (cond t (l ∷ rest) rest) ≡ one t + how_many name (map row_of ls)
    cases true e = omega arith
    cases false e = omega arith

pub length-filter_lines : (name text : List ℕ)
    → length (filter (λ l. same_text (label (row_of l)) name) (lines text)) ≡ how_many name (rows_in text)
unfolding rows_in
length-filter_lines name text = length-filter_rows name (lines text)

-- a text has no more lines than bytes, and one
pub rows_in-length-le : (text : List ℕ) → length (rows_in text) ≤ length text + 1
rows_in-length-le text = omega (arith, length-rows_in text, length-le-lines_size (lines text), lines_size-le text)

one-le : (t : Bool) → one t ≤ 1
one-le true = omega arith
one-le false = omega arith

how_many-le : (name : List ℕ) (rs : List Row) → how_many name rs ≤ length rs
unfolding how_many
how_many-le name [] = omega arith
how_many-le name (r ∷ rs) = omega (arith, how_many-le name rs, one-le (same_text (label r) name))

pub counted-le : (name text : List ℕ) → how_many name (rows_in text) ≤ length text + 1
counted-le name text = omega (arith, how_many-le name (rows_in text), rows_in-length-le text)

pub lines-length-le : (text : List ℕ) → length (lines text) ≤ length text + 1
lines-length-le text = omega (arith, length-rows_in text, rows_in-length-le text)

pub ruleset counting = (length-rows_in, rows_in-length-le, counted-le, lines-length-le)
