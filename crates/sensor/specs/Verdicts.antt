-- What the sensor answers and leaves, by a search that computes. That the search finds what document 01 says, in the terms
-- of Changes.antt, are the theorems of the conformance crate.
--
-- The search goes by places: the last window is place 0, the window before it place 1, and so on, so the lowest window is
-- the highest place. In each window one pattern at most makes the message carry the word: the syndrome divided by x once
-- for each place. What a pattern must pass at a place is one definition, `passes`; all else holds of any such test.
use Rattle.std.specs.Prelude.{ℕ, zero, suc, ◌-◌, ◌*◌, ◌^◌, List, [], ◌∷◌, Bool, true, false, not, ◌&&◌, eqb, ltb, leb, length, Result}
use Rattle.std.specs.Int.Bits.{bit_and, bit_xor}
use Rattle.std.specs.Int.Count.{ones}
use Rattle.outcome.specs.Outcomes.{Outcome, unless, left, said_by}
use Rattle.outcome.specs.Outcomes.Outcome.{answer}
use Rattle.outcome.specs.declared.Refusal.{Refusal}
use Rattle.outcome.specs.Refusals.{wrong_length, wrong_confidence_length, word_too_large, limit_too_large}
use Rattle.division.specs.Division.{remainder, backward}
use Rattle.message.specs.Message.{number, first_bit_agrees, is_message_length, is_word}
use Rattle.message.specs.Bits.{last_window, inverted}
use Rattle.sensor.specs.Changes.{marks_at}
use Rattle.sensor.specs.declared.Mark.{Mark}
use Rattle.sensor.specs.declared.Mark.TheVariants.{Sole, Several}
use Rattle.sensor.specs.declared.Verdict.{Verdict}
use Rattle.sensor.specs.declared.Verdict.TheVariants.{Clean, Dense, NoFit, Corrected}

-- ---- the answers

-- The marks of a correction, as values of an answer.
abbrev pub sole_mark : ℕ
sole_mark = 1

abbrev pub several_mark : ℕ
several_mark = 2

-- The four answers by document 01's numbers, each with its values: the window; the window, the number of ones and the mark.
abbrev pub clean_answer : Outcome
clean_answer = answer 1 []

abbrev pub dense_answer : ℕ → Outcome
dense_answer window = answer 2 (window ∷ [])

abbrev pub no_fit_answer : Outcome
no_fit_answer = answer 3 []

abbrev pub corrected_answer : ℕ → ℕ → ℕ → Outcome
corrected_answer window count mark = answer 4 (window ∷ count ∷ mark ∷ [])

-- What a Mark says.
abbrev pub mark_of : Mark → ℕ
mark_of Sole = sole_mark
mark_of Several = several_mark

-- What a Verdict says.
abbrev pub answered : Verdict → Outcome
answered Clean = clean_answer
answered (Dense w) = dense_answer w
answered NoFit = no_fit_answer
answered (Corrected k) = corrected_answer k.window k.bits (mark_of k.mark)

-- What a call says: a Verdict, or the refusal.
abbrev pub said : Result Verdict Refusal → Outcome
said = said_by answered

-- ---- the search

-- The highest place below k that passes a test, if there is one.
pub data Found : Type 0 where
  nowhere : Found
  at : ℕ → Found

abbrev pub first_of : Bool → ℕ → Found → Found
first_of true k f = at k
first_of false k f = f

unfoldable pub highest : (ℕ → Bool) → ℕ → Found
highest t zero = nowhere
highest t (suc k) = first_of (t k) k (highest t k)

-- The syndrome: remainder + W. It is zero exactly when the message carries W (ATC-117, 3.2).
unfoldable pub syndrome : List ℕ → ℕ → ℕ
syndrome m w = bit_xor (remainder (number m)) w

-- The pattern that the window at a place would need, and the message bits that it inverts.
unfoldable pub candidate : ℕ → ℕ → ℕ
candidate s zero = s
candidate s (suc e) = backward (candidate s e)

unfoldable pub change_at : ℕ → ℕ → ℕ
change_at s e = candidate s e * 2 ^ e

-- The test of a window for density: more low marks than the limit.
unfoldable pub dense_at : List ℕ → ℕ → ℕ → Bool
dense_at c l e = ltb l (ones (marks_at c e))

-- The test of a pattern at a place: it has ones on low marks only, and the first bit that it leaves agrees with the length.
unfoldable pub passes : List ℕ → List ℕ → ℕ → ℕ → Bool
passes m c e p = eqb (bit_and p (marks_at c e)) p && first_bit_agrees (inverted m (p * 2 ^ e))

-- Of any test φ: whether the candidate of a place passes it, and whether it does and inverts other message bits than the
-- candidate of another place.
unfoldable pub fits_at : (ℕ → ℕ → Bool) → ℕ → ℕ → Bool
fits_at φ s e = φ e (candidate s e)

unfoldable pub differs_at : (ℕ → ℕ → Bool) → ℕ → ℕ → ℕ → Bool
differs_at φ s e e' = fits_at φ s e' && not (eqb (change_at s e') (change_at s e))

-- ---- the decision: the first of document 01's four rows that applies

-- With the place of the window, and for a correction whether another change fits.
pub data Decision : Type 0 where
  clean : Decision
  dense : ℕ → Decision
  no_fit : Decision
  corrected : ℕ → Found → Decision

abbrev pub fit_decision : (ℕ → Found) → Found → Decision
fit_decision other nowhere = no_fit
fit_decision other (at e) = corrected e (other e)

abbrev pub dense_decision : Found → Decision → Decision
dense_decision nowhere r = r
dense_decision (at e) r = dense e

abbrev pub clean_decision : Bool → Decision → Decision
clean_decision true r = clean
clean_decision false r = r

-- Of a syndrome that is not zero: no fit, or the fit of the lowest window that has one.
unfoldable pub fits_decision : (ℕ → ℕ → Bool) → List ℕ → ℕ → Decision
fits_decision φ c s =
    fit_decision (λ e. highest (differs_at φ s e) (suc (last_window c))) (highest (fits_at φ s) (suc (last_window c)))

-- Before that, whether a window is dense.
unfoldable pub hit_decision : (ℕ → ℕ → Bool) → List ℕ → ℕ → ℕ → Decision
hit_decision φ c s l = dense_decision (highest (dense_at c l) (suc (last_window c))) (fits_decision φ c s)

-- Before that, whether the message is clean.
unfoldable pub decision_of : List ℕ → List ℕ → ℕ → ℕ → Decision
decision_of m c w l = clean_decision (eqb (syndrome m w) 0) (hit_decision (passes m c) c (syndrome m w) l)

-- ---- what a decision answers, and the message after it

abbrev pub mark_number : Found → ℕ
mark_number nowhere = sole_mark
mark_number (at e) = several_mark

abbrev pub decision_answer : List ℕ → ℕ → Decision → Outcome
decision_answer m s clean = clean_answer
decision_answer m s (dense e) = dense_answer (last_window m - e)
decision_answer m s no_fit = no_fit_answer
decision_answer m s (corrected e other) = corrected_answer (last_window m - e) (ones (candidate s e)) (mark_number other)

abbrev pub decision_message : List ℕ → ℕ → Decision → List ℕ
decision_message m s clean = m
decision_message m s (dense e) = m
decision_message m s no_fit = m
decision_message m s (corrected e other) = inverted m (change_at s e)

-- ---- the call

-- Rows 1 to 4 of the refusals, by the two lengths and the two numbers.
abbrev pub checked_numbers : ℕ → ℕ → Outcome → Outcome
checked_numbers w l a = unless (is_word w) word_too_large (unless (leb l 24) limit_too_large a)

unfoldable pub checked : ℕ → ℕ → ℕ → ℕ → Outcome → Outcome
checked n k w l a =
    unless (is_message_length n) wrong_length
    (unless (eqb k n) wrong_confidence_length
    (checked_numbers w l a))

unfoldable pub sensor_outcome : List ℕ → List ℕ → ℕ → ℕ → Outcome
sensor_outcome m c w l = checked (length m) (length c) w l (decision_answer m (syndrome m w) (decision_of m c w l))

-- The message after the call: where it was refused, as it was before.
unfoldable pub sensor_after : List ℕ → List ℕ → ℕ → ℕ → List ℕ
sensor_after m c w l = left (sensor_outcome m c w l) m (decision_message m (syndrome m w) (decision_of m c w l))
