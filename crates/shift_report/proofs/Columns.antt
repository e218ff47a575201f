-- The columns of a line, found one behind the other: each is the first of what stands behind the one before it.
use mathlib.Core.Path.{◌≡◌, refl, sym, ap, ap₂, ◌∙◌}
use mathlib.Core.Bool.{Bool, true, false, cond}
use mathlib.Core.List.{List, [], ◌∷◌}
use Prim.Native.Nat.{ℕ, zero, suc, ◌+◌}
use native.Mathlib.Omega.{arith}
use lib.ListN.{length}
use lib.Seq.{get_or-drop}
use lib.Dec.{ltb, eqb}
use borrow.Author.Tests.{ltb-true, ltb-false}
use Rattle.text.specs.Ascii.{ascii, space}
use Rattle.text.proofs.Laws.{no_more, picked, passed_over}
use Rattle.reading.specs.Lines.{columns, before, behind}
use Rattle.reading.proofs.Laws.{first-column, split-column, whole-column}
use Rattle.shift_report.specs.Tally.{Row, same_text, column_at, label}
use Rattle.shift_report.specs.Printed.{row_of}
use Rattle.std.specs.Cmp.Lexicographic.{pointwise}
use Rattle.shift_report.proofs.Same.{pointwise-same}

pub column-first : (s : List ℕ) → before space s ≡ column_at (columns s) 0
column-first s = sym (ap (λ (cs : Row). column_at cs 0) (first-column s))

pub column-behind : (s : List ℕ) (k : ℕ) → column_at (columns (behind space s)) k ≡ column_at (columns s) (suc k)
column-behind s k = cases (ltb (length (before space s)) (length s)) refl
  where
    empty : (k : ℕ) → column_at ([] ∷ []) k ≡ []
    empty zero = refl
    empty (suc k) = refl

    none : columns [] ≡ [] ∷ []
    none = whole-column [] (length (before space [])) refl (omega arith)

    cases : (t : Bool) → ltb (length (before space s)) (length s) ≡ t
        → column_at (columns (behind space s)) k ≡ column_at (columns s) (suc k)
    cases true e =
        sym (ap (λ (cs : Row). column_at cs (suc k)) (split-column s (length (before space s)) refl (ltb-true (length (before space s)) (length s) e)))
    cases false e =
        let over = ltb-false (length (before space s)) (length s) e in
        ap (λ (l : List ℕ). column_at (columns l) k) (no_more s (length (before space s) + 1) (omega arith))
        ∙ ap (λ (cs : Row). column_at cs k) none
        ∙ empty k
        ∙ sym (ap (λ (cs : Row). column_at cs (suc k)) (whole-column s (length (before space s)) refl over))

-- the fourth column is the first behind three others
pub column_fourth : (s : List ℕ) → column_at (columns s) 3 ≡ before space (behind space (behind space (behind space s)))
column_fourth s =
    sym (column-first (behind space (behind space (behind space s))) ∙ column-behind (behind space (behind space s)) 0 ∙ column-behind (behind space s) 1 ∙ column-behind s 2)

-- ---- the name that a row counts for hangs on two of its columns

-- a line's row is the columns behind its number
pub label-behind : (line : List ℕ) → label (columns (behind space line)) ≡ label (row_of line)
unfolding label row_of
label-behind line =
    ap₂ (λ (a m : List ℕ). cond (same_text a (ascii "corrected")) m a)
    (column-behind line 0 ∙ sym (get_or-drop 1 (columns line) 0 []))
    (column-behind line 3 ∙ sym (get_or-drop 1 (columns line) 3 []))

-- what the code compares: the answer with the word `corrected`
module _ (line word : List ℕ) (e : word ≡ ascii "corrected") where
  same_answer : pointwise eqb (before space (behind space line)) word ≡ same_text (column_at (columns (behind space line)) 0) (ascii "corrected")
  same_answer =
      pointwise-same (before space (behind space line)) word ∙ ap₂ same_text (column-first (behind space line)) e

  pub label-mark : pointwise eqb (before space (behind space line)) word ≡ true
      → (pointwise eqb (before space (behind space line)) word ≡ true) × (label (row_of line) ≡ column_at (columns (behind space line)) 3)
  unfolding label
  label-mark t =
      (t, sym (label-behind line) ∙ picked (same_text (column_at (columns (behind space line)) 0) (ascii "corrected")) (column_at (columns (behind space line)) 3) (column_at (columns (behind space line)) 0) (sym same_answer ∙ t))

  pub label-answer : pointwise eqb (before space (behind space line)) word ≡ false
      → (pointwise eqb (before space (behind space line)) word ≡ false) × (label (row_of line) ≡ before space (behind space line))
  unfolding label
  label-answer t =
      (t, sym (label-behind line) ∙ passed_over (same_text (column_at (columns (behind space line)) 0) (ascii "corrected")) (column_at (columns (behind space line)) 3) (column_at (columns (behind space line)) 0) (sym same_answer ∙ t) ∙ sym (column-first (behind space line)))

pub ruleset labelling = (label-mark, label-answer, pointwise-same)
