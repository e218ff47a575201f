-- The columns of an answer of the sensor, and columns as text (document 01, 'The program sift'): 'answer; window, or the
-- refusal number; bits changed; mark'.
use Rattle.std.specs.Prelude.{ℕ, List, [], ◌∷◌, ◌++◌, cond, drop, eqb}
use Rattle.text.specs.Ascii.{ascii, space}
use Rattle.text.specs.Digits.{decimal_text}
use Rattle.outcome.specs.Outcomes.{Outcome}
use Rattle.outcome.specs.Outcomes.Outcome.{refusal, answer}
use Rattle.sensor.specs.Verdicts.{clean_answer, dense_answer, no_fit_answer, sole_mark}

-- The numbers of the sensor's answers, which do not hang on their values.
abbrev pub number_of : Outcome → ℕ
number_of (refusal n) = n
number_of (answer n values) = n

abbrev pub clean_number : ℕ
clean_number = number_of clean_answer

abbrev pub dense_number : ℕ
dense_number = number_of (dense_answer 0)

abbrev pub no_fit_number : ℕ
no_fit_number = number_of no_fit_answer

-- The word for the number of an answer: any other than these three is a correction's.
unfoldable pub answer_word : ℕ → List ℕ
answer_word n =
    cond (eqb n clean_number) (ascii "clean")
    (cond (eqb n dense_number) (ascii "dense")
    (cond (eqb n no_fit_number) (ascii "nofit") (ascii "corrected")))

-- The word for a mark of a correction, sole or several.
unfoldable pub mark_word : ℕ → List ℕ
mark_word mark = cond (eqb mark sole_mark) (ascii "sole") (ascii "several")

-- '`-` fills what an answer lacks'
abbrev pub lacking : List ℕ
lacking = ascii "-"

-- the first of some values as a column
abbrev pub column : (ℕ → List ℕ) → List ℕ → List ℕ
column text [] = lacking
column text (v ∷ vs) = text v

-- an answer's values are the window, the bits changed and the mark, as far as it has them
unfoldable pub outcome_columns : Outcome → List (List ℕ)
outcome_columns (refusal n) = ascii "refused" ∷ decimal_text n ∷ lacking ∷ lacking ∷ []
outcome_columns (answer n values) =
    answer_word n ∷ column decimal_text values ∷ column decimal_text (drop 1 values) ∷ column mark_word (drop 2 values) ∷ []

-- columns after the first of a line, each after one space
unfoldable pub spaced : List (List ℕ) → List ℕ
spaced [] = []
spaced (c ∷ cs) = space ∷ c ++ spaced cs
