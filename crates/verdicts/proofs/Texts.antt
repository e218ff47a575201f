-- The texts that the functions append, as columns, and their lengths.
use mathlib.Core.Path.{◌≡◌, refl, sym, ap, ◌∙◌}
use mathlib.Core.List.{List, [], ◌∷◌, ◌++◌, append_assoc, append-nil}
use Prim.Native.Nat.{ℕ, ◌≤◌}
use native.Mathlib.Omega.{arith}
use lib.ListN.{length, length-append}
use lib.Dec.{eqb}
use mathlib.Core.Bool.{Bool, true, false, cond}
use Rattle.text.specs.Ascii.{ascii, space}
use Rattle.text.specs.Digits.{decimal_text}
use Rattle.outcome.specs.Outcomes.Outcome.{refusal}
use Rattle.sensor.specs.Verdicts.{sole_mark, several_mark, clean_answer, dense_answer, no_fit_answer, corrected_answer}
use Rattle.verdicts.specs.Columns.{answer_word, mark_word, lacking, outcome_columns, spaced}

-- ---- columns

pub spaced-nil : spaced [] ≡ []
unfolding spaced
spaced-nil = refl

pub spaced-cons : (c : List ℕ) (cs : List (List ℕ)) → spaced (c ∷ cs) ≡ space ∷ c ++ spaced cs
unfolding spaced
spaced-cons c cs = refl

pub spaced-append : (cs ds : List (List ℕ)) → spaced (cs ++ ds) ≡ spaced cs ++ spaced ds
unfolding spaced
spaced-append [] ds = refl
spaced-append (c ∷ cs) ds =
    ap (λ (t : List ℕ). (space ∷ c) ++ t) (spaced-append cs ds) ∙ sym (append_assoc (space ∷ c) (spaced cs) (spaced ds))

-- ---- the columns of each answer

pub refused-columns : (n : ℕ) → outcome_columns (refusal n) ≡ ascii "refused" ∷ decimal_text n ∷ lacking ∷ lacking ∷ []
unfolding outcome_columns
refused-columns n = refl

pub clean_columns : outcome_columns clean_answer ≡ ascii "clean" ∷ lacking ∷ lacking ∷ lacking ∷ []
unfolding outcome_columns answer_word
clean_columns = refl

pub dense_columns : (w : ℕ) → outcome_columns (dense_answer w) ≡ ascii "dense" ∷ decimal_text w ∷ lacking ∷ lacking ∷ []
unfolding outcome_columns answer_word
dense_columns w = refl

pub nofit_columns : outcome_columns no_fit_answer ≡ ascii "nofit" ∷ lacking ∷ lacking ∷ lacking ∷ []
unfolding outcome_columns answer_word
nofit_columns = refl

pub sole_columns : (w b : ℕ) → outcome_columns (corrected_answer w b sole_mark) ≡ ascii "corrected" ∷ decimal_text w ∷ decimal_text b ∷ ascii "sole" ∷ []
unfolding outcome_columns answer_word mark_word
sole_columns w b = refl

pub several_columns : (w b : ℕ) → outcome_columns (corrected_answer w b several_mark) ≡ ascii "corrected" ∷ decimal_text w ∷ decimal_text b ∷ ascii "several" ∷ []
unfolding outcome_columns answer_word mark_word
several_columns w b = refl

-- ---- verdicts

pub clean_text : ascii " clean - - -" ≡ spaced (outcome_columns clean_answer)
unfolding spaced outcome_columns answer_word
clean_text = refl

pub nofit_text : ascii " nofit - - -" ≡ spaced (outcome_columns no_fit_answer)
unfolding spaced outcome_columns answer_word
nofit_text = refl

pub dense_text : (w : ℕ) → ascii " dense " ++ decimal_text w ++ ascii " - -" ≡ spaced (outcome_columns (dense_answer w))
unfolding spaced outcome_columns answer_word
dense_text w = refl

pub refused_text : (n : ℕ) → ascii " refused " ++ decimal_text n ++ ascii " - -" ≡ spaced (outcome_columns (refusal n))
unfolding spaced outcome_columns
refused_text n = refl

pub corrected_text : (w b m : ℕ)
    → ascii " corrected " ++ decimal_text w ++ (space ∷ []) ++ decimal_text b ++ (space ∷ mark_word m)
    ≡ spaced (outcome_columns (corrected_answer w b m))
unfolding spaced outcome_columns answer_word
corrected_text w b m =
    append_assoc (ascii " corrected " ++ decimal_text w ++ (space ∷ [])) (decimal_text b) (space ∷ mark_word m)
    ∙ append_assoc (ascii " corrected " ++ decimal_text w) (space ∷ []) (decimal_text b ++ (space ∷ mark_word m))
    ∙ append_assoc (ascii " corrected ") (decimal_text w) (space ∷ (decimal_text b ++ (space ∷ mark_word m)))
    ∙ ap (λ (t : List ℕ). ascii " corrected " ++ (decimal_text w ++ (space ∷ (decimal_text b ++ (space ∷ t))))) (sym (append-nil (mark_word m)))

-- ---- lengths of verdicts, where a number has at most ten digits (src/lib.rt says why 40)

mark_word-length : (m : ℕ) → length (mark_word m) ≤ 7
unfolding mark_word
mark_word-length m = cases (eqb m sole_mark)
  where
    cases : (t : Bool) → length (cond t (ascii "sole") (ascii "several")) ≤ 7
    cases true = omega arith
    cases false = omega arith

pub number-length : (word : List ℕ) (n : ℕ) → length word ≤ 9 → length (decimal_text n) ≤ 10 → length (word ++ decimal_text n ++ ascii " - -") ≤ 40
number-length word n h k =
    omega (arith, length-append word (decimal_text n), length-append (word ++ decimal_text n) (ascii " - -"))

pub corrected_length : (w b m : ℕ) → length (decimal_text w) ≤ 10 → length (decimal_text b) ≤ 10
    → length (ascii " corrected " ++ decimal_text w ++ (space ∷ []) ++ decimal_text b ++ (space ∷ mark_word m)) ≤ 40
corrected_length w b m h k =
    omega (
      arith,
      length-append (ascii " corrected ") (decimal_text w),
      length-append (ascii " corrected " ++ decimal_text w) (space ∷ []),
      length-append (ascii " corrected " ++ decimal_text w ++ (space ∷ [])) (decimal_text b),
      length-append (ascii " corrected " ++ decimal_text w ++ (space ∷ []) ++ decimal_text b) (space ∷ mark_word m),
      mark_word-length m,
    )

-- ---- for the tactics

pub refused-length : (n : ℕ) → length (decimal_text n) ≤ 10 → length (spaced (outcome_columns (refusal n))) ≤ 40
refused-length n h = omega (arith, ap length (refused_text n), number-length (ascii " refused ") n (omega arith) h)

pub ruleset refused_texts = (refused_text, refused-length)

pub dense-length : (w : ℕ) → length (decimal_text w) ≤ 10 → length (spaced (outcome_columns (dense_answer w))) ≤ 40
dense-length w h = omega (arith, ap length (dense_text w), number-length (ascii " dense ") w (omega arith) h)

pub corrected-length : (w b m : ℕ) → length (decimal_text w) ≤ 10 → length (decimal_text b) ≤ 10
    → length (spaced (outcome_columns (corrected_answer w b m))) ≤ 40
corrected-length w b m h k = omega (arith, ap length (corrected_text w b m), corrected_length w b m h k)

pub clean-length : length (spaced (outcome_columns clean_answer)) ≤ 40
clean-length = omega (arith, ap length clean_text)

pub nofit-length : length (spaced (outcome_columns no_fit_answer)) ≤ 40
nofit-length = omega (arith, ap length nofit_text)

pub ruleset verdict_texts = (clean_text, clean-length, nofit_text, nofit-length, dense_text, dense-length, corrected_text, corrected-length)
