-- The answer to four columns: well-formed, or not, or followed by a fifth.
use mathlib.Core.Path.{◌≡◌, refl, ap, ◌∙◌}
use mathlib.Core.Bool.{Bool, true, false}
use mathlib.Core.List.{List, ◌∷◌}
use Prim.Native.Nat.{ℕ, ◌+◌}
use lib.ListN.{length, take, drop}
use lib.Dec.{ltb}
use borrow.Author.Tests.{ltb-true, ltb-false}
use Rattle.text.specs.Ascii.{space}
use Rattle.text.proofs.Laws.{picked, passed_over}
use Rattle.reading.specs.Lines.{columns, before}
use Rattle.reading.specs.Digits.{hex_bytes, hex_number, decimal_number}
use Rattle.reading.proofs.Laws.{first-column, split-column, whole-column, decimal-column}
use Rattle.request.specs.Requests.{well_formed}
use Rattle.request.proofs.Laws.{limit-decimal}
use Rattle.report.specs.Sift.{malformed, request_columns, answer_columns}

-- a limit has no space in it, so it is the last column
pub well_formed_columns : (m c w l : List ℕ) → well_formed m c w l ≡ true
    → answer_columns (m ∷ c ∷ w ∷ columns l) ≡ request_columns (hex_bytes m) (hex_bytes c) (hex_number w) (decimal_number l)
unfolding answer_columns
well_formed_columns m c w l e =
    ap (λ (cs : List (List ℕ)). answer_columns (m ∷ c ∷ w ∷ cs)) (decimal-column l (limit-decimal m c w l e))
    ∙ picked (well_formed m c w l) (request_columns (hex_bytes m) (hex_bytes c) (hex_number w) (decimal_number l)) malformed e

-- a fifth column
too_many : (m c w x y : List ℕ) → answer_columns (m ∷ c ∷ w ∷ x ∷ columns y) ≡ malformed
unfolding answer_columns
too_many m c w x y = ap (λ (cs : List (List ℕ)). answer_columns (m ∷ c ∷ w ∷ x ∷ cs)) (first-column y)

pub ill_formed_columns : (m c w l : List ℕ) → well_formed m c w l ≡ false → answer_columns (m ∷ c ∷ w ∷ columns l) ≡ malformed
unfolding answer_columns
ill_formed_columns m c w l e = cases (ltb (length (before space l)) (length l)) refl
  where
    cases : (t : Bool) → ltb (length (before space l)) (length l) ≡ t → answer_columns (m ∷ c ∷ w ∷ columns l) ≡ malformed
    cases true f =
        ap (λ (cs : List (List ℕ)). answer_columns (m ∷ c ∷ w ∷ cs)) (split-column l (length (before space l)) refl (ltb-true (length (before space l)) (length l) f))
        ∙ too_many m c w (take (length (before space l)) l) (drop (length (before space l) + 1) l)
    cases false f =
        ap (λ (cs : List (List ℕ)). answer_columns (m ∷ c ∷ w ∷ cs)) (whole-column l (length (before space l)) refl (ltb-false (length (before space l)) (length l) f))
        ∙ passed_over (well_formed m c w l) (request_columns (hex_bytes m) (hex_bytes c) (hex_number w) (decimal_number l)) malformed e
