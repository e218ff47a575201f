-- What sift prints for a line, as the crates above know it: its columns are those of a malformed line or of an answer of the
-- sensor with the message after the call, and its text is its number and these columns, up to the line feed.
use mathlib.Core.Path.{◌≡◌, refl, sym, ap, ◌∙◌}
use mathlib.Core.Bool.{Bool, true, false, cond}
use mathlib.Core.List.{List, [], ◌∷◌, ◌++◌, append_assoc}
use Prim.Native.Nat.{ℕ, ◌+◌}
use Rattle.text.specs.Ascii.{ascii, line_feed}
use Rattle.text.specs.Digits.{hex_text, decimal_text}
use Rattle.reading.specs.Lines.{columns}
use Rattle.reading.specs.Digits.{hex_bytes, hex_number, decimal_number}
use Rattle.sensor.specs.Verdicts.{sensor_outcome, sensor_after}
use Rattle.request.specs.Requests.{well_formed}
use Rattle.verdicts.specs.Columns.{outcome_columns, lacking, spaced}
use Rattle.report.specs.Sift.{request_columns, malformed, answer_columns, answer_text, output_line, output_lines}

-- what holds of the columns of a malformed line and of those of every call of the sensor holds of every answer
module _ (P : List (List ℕ) → Type 0)
    (bad : P (ascii "malformed" ∷ lacking ∷ lacking ∷ lacking ∷ lacking ∷ []))
    (called : (m c : List ℕ) (w l : ℕ) → P (outcome_columns (sensor_outcome m c w l) ++ hex_text (sensor_after m c w l) ∷ []))
  where
    formed-or-not : (t : Bool) (m c w l : List ℕ) → P (cond t (request_columns (hex_bytes m) (hex_bytes c) (hex_number w) (decimal_number l)) malformed)
    unfolding request_columns malformed
    formed-or-not true m c w l = called (hex_bytes m) (hex_bytes c) (hex_number w) (decimal_number l)
    formed-or-not false m c w l = bad

    pub every-answer : (cs : List (List ℕ)) → P (answer_columns cs)
    unfolding answer_columns malformed
    every-answer [] = bad
    every-answer (m ∷ []) = bad
    every-answer (m ∷ c ∷ []) = bad
    every-answer (m ∷ c ∷ w ∷ []) = bad
    every-answer (m ∷ c ∷ w ∷ l ∷ []) = formed-or-not (well_formed m c w l) m c w l
    every-answer (m ∷ c ∷ w ∷ l ∷ x ∷ xs) = bad

-- ---- the text

pub no_output : (n : ℕ) → output_lines n [] ≡ []
unfolding output_lines
no_output n = refl

pub line_text_lem : (n : ℕ) (l : List ℕ) → output_line n l ≡ decimal_text n ++ answer_text (columns l)
unfolding output_line
line_text_lem n l = refl

pub next_output_line : (n : ℕ) (l : List ℕ) (ls : List (List ℕ)) → output_lines n (l ∷ ls) ≡ output_line n l ++ output_lines (n + 1) ls
unfolding output_lines
next_output_line n l ls = refl

pub output_line_lem : (n : ℕ) (l : List ℕ) (ls : List (List ℕ))
    → output_lines n (l ∷ ls) ≡ (decimal_text n ++ spaced (answer_columns (columns l))) ++ line_feed ∷ output_lines (n + 1) ls
unfolding output_lines output_line answer_text
output_line_lem n l ls =
    let row : List ℕ = spaced (answer_columns (columns l)) in
    let others : List ℕ = output_lines (n + 1) ls in
    ap (λ (t : List ℕ). t ++ others) (sym (append_assoc (decimal_text n) row (line_feed ∷ [])))
    ∙ append_assoc (decimal_text n ++ row) (line_feed ∷ []) others
