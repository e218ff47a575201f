-- Each row that sift prints is of one of seven kinds, by the answer of the sensor or as a malformed line's: what is shown of
-- the seven holds of all rows.
use mathlib.Core.Path.{◌≡◌, refl, sym, ap, ◌∙◌, subst}
use mathlib.Core.List.{List, [], ◌∷◌, ◌++◌}
use Prim.Native.Nat.{ℕ}
use Rattle.text.specs.Ascii.{ascii}
use Rattle.text.specs.Digits.{hex_text, decimal_text}
use Rattle.outcome.specs.Outcomes.{Outcome}
use Rattle.outcome.specs.Outcomes.Outcome.{refusal, answer}
use Rattle.outcome.proofs.Laws.{refusal_is_no_answer}
use Rattle.sensor.specs.Verdicts.{Decision, syndrome, decision_of, decision_answer, sensor_outcome, sensor_after}
use Rattle.sensor.specs.Verdicts.Found.{nowhere, at}
use Rattle.sensor.specs.Verdicts.Decision.{clean, dense, no_fit, corrected}
use Rattle.sensor.proofs.Laws.{unrefused, outcome_decided}
use Rattle.verdicts.specs.Columns.{outcome_columns, lacking}
use Rattle.verdicts.proofs.Laws.{refused-columns, clean_columns, dense_columns, nofit_columns, sole_columns, several_columns}
use Rattle.report.specs.Sift.{answer_columns}
use Rattle.report.proofs.Laws.{every-answer}
use Rattle.shift_report.specs.Tally.{Row}

-- the numbers are the window or the refusal, and the bits changed
pub data Kind : Type 0 where
  is_clean : Kind
  is_sole : ℕ → ℕ → Kind
  is_several : ℕ → ℕ → Kind
  is_dense : ℕ → Kind
  is_no_fit : Kind
  is_refused : ℕ → Kind
  is_malformed : Kind

-- the row of a kind, with the message after the call
abbrev pub kind_row : Kind → List ℕ → Row
kind_row is_clean m = ascii "clean" ∷ lacking ∷ lacking ∷ lacking ∷ hex_text m ∷ []
kind_row (is_sole w b) m = ascii "corrected" ∷ decimal_text w ∷ decimal_text b ∷ ascii "sole" ∷ hex_text m ∷ []
kind_row (is_several w b) m = ascii "corrected" ∷ decimal_text w ∷ decimal_text b ∷ ascii "several" ∷ hex_text m ∷ []
kind_row (is_dense w) m = ascii "dense" ∷ decimal_text w ∷ lacking ∷ lacking ∷ hex_text m ∷ []
kind_row is_no_fit m = ascii "nofit" ∷ lacking ∷ lacking ∷ lacking ∷ hex_text m ∷ []
kind_row (is_refused n) m = ascii "refused" ∷ decimal_text n ∷ lacking ∷ lacking ∷ hex_text m ∷ []
kind_row is_malformed m = ascii "malformed" ∷ lacking ∷ lacking ∷ lacking ∷ lacking ∷ []

pub record Shown (row : Row) : Type 0 where
  pub kind : Kind
  pub after : List ℕ
  pub is : row ≡ kind_row kind after

-- ---- the columns of an answer, and the message x after the call

abbrev with : Outcome → List ℕ → Row
with o x = outcome_columns o ++ hex_text x ∷ []

shown : (o : Outcome) (x : List ℕ) (k : Kind) (cs : Row) → outcome_columns o ≡ cs → cs ++ hex_text x ∷ [] ≡ kind_row k x → Shown (with o x)
shown o x k cs e f = record { kind = k; after = x; is = ap (λ (r : Row). r ++ hex_text x ∷ []) e ∙ f }

decided : (m : List ℕ) (s : ℕ) (d : Decision) (x : List ℕ) → Shown (with (decision_answer m s d) x)
decided m s clean x = shown _ x is_clean _ clean_columns refl
decided m s (dense e) x = shown _ x (is_dense _) _ (dense_columns _) refl
decided m s no_fit x = shown _ x is_no_fit _ nofit_columns refl
decided m s (corrected e nowhere) x = shown _ x (is_sole _ _) _ (sole_columns _ _) refl
decided m s (corrected e (at i)) x = shown _ x (is_several _ _) _ (several_columns _ _) refl

-- a call is refused, or decided
called : (m c : List ℕ) (w l : ℕ) (x : List ℕ) → Shown (with (sensor_outcome m c w l) x)
called m c w l x = by (sensor_outcome m c w l) refl
  where
    by : (o : Outcome) → sensor_outcome m c w l ≡ o → Shown (with (sensor_outcome m c w l) x)
    by (refusal n) e = shown (sensor_outcome m c w l) x (is_refused n) _ (ap outcome_columns e ∙ refused-columns n) refl
    by (answer n vs) e =
        subst (λ (o : Outcome). Shown (with o x))
        (sym (outcome_decided m c w l (unrefused m c w l (λ r f. refusal_is_no_answer (sym f ∙ e)))))
        (decided m (syndrome m w) (decision_of m c w l) x)

pub row-shown : (cs : List (List ℕ)) → Shown (answer_columns cs)
row-shown =
    every-answer Shown (record { kind = is_malformed; after = []; is = refl })
    (λ m c w l. called m c w l (sensor_after m c w l))
