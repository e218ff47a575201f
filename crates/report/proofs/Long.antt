-- A line of more than 67 bytes is malformed, whatever its bytes: the four columns of a well-formed line have at most 64 digits,
-- and three spaces part them. So all such lines have one answer.
use mathlib.Core.Path.{◌≡◌, refl, sym, ap, ◌∙◌}
use mathlib.Core.Bool.{Bool, true, false}
use mathlib.Core.List.{List, [], ◌∷◌, ◌++◌}
use Prim.Native.Nat.{ℕ, ◌<◌}
use native.Mathlib.Omega.{arith}
use lib.ListN.{length}
use Rattle.text.specs.Digits.{decimal_text}
use Rattle.text.proofs.Laws.{passed_over}
use Rattle.reading.specs.Lines.{columns}
use Rattle.reading.specs.Digits.{hex_bytes, hex_number, decimal_number}
use Rattle.reading.proofs.Laws.{columns_size, columns_size_lem}
use Rattle.request.specs.Requests.{well_formed}
use Rattle.request.proofs.Laws.{all_digits}
use Rattle.report.specs.Sift.{line_end, request_columns, malformed, answer_columns, answer_text, output_line}

long_columns : (cs : List (List ℕ)) → 68 < columns_size cs → answer_columns cs ≡ malformed
unfolding answer_columns columns_size
long_columns [] h = refl
long_columns (m ∷ []) h = refl
long_columns (m ∷ c ∷ []) h = refl
long_columns (m ∷ c ∷ w ∷ []) h = refl
long_columns (m ∷ c ∷ w ∷ l ∷ []) h =
    passed_over (well_formed m c w l) (request_columns (hex_bytes m) (hex_bytes c) (hex_number w) (decimal_number l)) malformed
    (cases (well_formed m c w l) refl)
  where
    cases : (t : Bool) → well_formed m c w l ≡ t → t ≡ false
    cases true e = absurd (omega (arith, all_digits m c w l e))
    cases false e = refl
long_columns (m ∷ c ∷ w ∷ l ∷ x ∷ xs) h = refl

long_answer : (line : List ℕ) → 67 < length line → answer_text (columns line) ≡ line_end malformed
unfolding answer_text
long_answer line h = ap (λ (cs : List (List ℕ)). line_end cs) (long_columns (columns line) (omega (arith, columns_size_lem line)))

pub long_lines_alike : (n : ℕ) (a b : List ℕ) → 67 < length a → 67 < length b → output_line n a ≡ output_line n b
unfolding output_line
long_lines_alike n a b h k = ap (λ (t : List ℕ). decimal_text n ++ t) (long_answer a h ∙ sym (long_answer b k))
