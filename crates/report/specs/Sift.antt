-- The whole output of sift as a definition of its whole input (document 01, 'The program sift').
-- request/specs/Requests.antt says what a well-formed line is, verdicts/specs/Columns.antt which columns an answer of the
-- sensor has.
use Rattle.std.specs.Prelude.{ℕ, ◌+◌, List, [], ◌∷◌, ◌++◌, cond, length, leb}
use Rattle.text.specs.Ascii.{ascii, line_feed}
use Rattle.reading.specs.Lines.{lines, columns}
use Rattle.text.specs.Digits.{hex_text, decimal_text}
use Rattle.reading.specs.Digits.{hex_bytes, hex_number, decimal_number}
use Rattle.sensor.specs.Verdicts.{sensor_outcome, sensor_after}
use Rattle.request.specs.Requests.{well_formed}
use Rattle.verdicts.specs.Columns.{outcome_columns, lacking, spaced}

-- ---- the columns of an answer

-- what the sensor answers, and the 'message after the call'
unfoldable pub request_columns : List ℕ → List ℕ → ℕ → ℕ → List (List ℕ)
request_columns m c w l = outcome_columns (sensor_outcome m c w l) ++ hex_text (sensor_after m c w l) ∷ []

-- 'a malformed line has four'
unfoldable pub malformed : List (List ℕ)
malformed = ascii "malformed" ∷ lacking ∷ lacking ∷ lacking ∷ lacking ∷ []

-- the columns of a line, to those of its answer: four columns, well-formed; 'any other line is malformed'
unfoldable pub answer_columns : List (List ℕ) → List (List ℕ)
answer_columns [] = malformed
answer_columns (m ∷ []) = malformed
answer_columns (m ∷ c ∷ []) = malformed
answer_columns (m ∷ c ∷ w ∷ []) = malformed
answer_columns (m ∷ c ∷ w ∷ l ∷ []) =
    cond (well_formed m c w l) (request_columns (hex_bytes m) (hex_bytes c) (hex_number w) (decimal_number l)) malformed
answer_columns (m ∷ c ∷ w ∷ l ∷ x ∷ xs) = malformed

-- ---- the output

-- columns after the first, each after one space, and the line feed
abbrev pub line_end : List (List ℕ) → List ℕ
line_end cs = spaced cs ++ line_feed ∷ []

-- what follows the line's number, from the columns of the line
unfoldable pub answer_text : List (List ℕ) → List ℕ
answer_text cs = line_end (answer_columns cs)

unfoldable pub output_line : ℕ → List ℕ → List ℕ
output_line number line = decimal_text number ++ answer_text (columns line)

-- one for each line, numbered on from a number
unfoldable pub output_lines : ℕ → List (List ℕ) → List ℕ
output_lines number [] = []
output_lines number (l ∷ ls) = output_line number l ++ output_lines (number + 1) ls

abbrev pub header : List ℕ
header = ascii "line answer window bits mark message\n"

-- 'Input above 65,536 bytes gives the header and the line `too long` only.'
unfoldable pub sift_output : List ℕ → List ℕ
sift_output input = header ++ cond (leb (length input) 65536) (output_lines 1 (lines input)) (ascii "too long\n")
