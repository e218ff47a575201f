-- What the reader and the writer of an altitude answer, and what the writer leaves (document 02, Point 1).
use Rattle.std.specs.Prelude.{ℕ, suc, cond, List, [], ◌∷◌, ℤ, pos, negsuc, length, Option, None, Some, Result, Ok}
use Rattle.outcome.specs.Outcomes.{Outcome, done, unless, said_by, left}
use Rattle.outcome.specs.Outcomes.Outcome.{answer}
use Rattle.outcome.specs.Refusals.{wrong_length, first_bit_contradicts, altitude_not_in_code}
use Rattle.outcome.specs.declared.Refusal.{Refusal}
use Rattle.message.specs.Message.{is_message_length, first_bit_agrees}
use Rattle.altitude_code.specs.Altitudes.{decoded_of, in_code, code_of}
use Rattle.altitude_code.specs.declared.Decoded.{Decoded}
use Rattle.altitude_code.specs.declared.Decoded.TheVariants as D
use Rattle.altitude.specs.Fields.{has_altitude, altitude_code, with_code}
use Rattle.altitude.specs.declared.Writing.{Writing}
use Rattle.altitude.specs.declared.Writing.TheVariants as W

-- A number with a sign as an answer's values: 1 where it is below zero and else 0, then the number without its sign.
abbrev pub signed : ℤ → List ℕ
signed (pos n) = 0 ∷ n ∷ []
signed (negsuc n) = 1 ∷ suc n ∷ []

-- What the altitude of a reply says; none where its format has none. Point 1 numbers no answers; these are in the order of
-- the enum, and 'no such field' is the last.
abbrev pub said_field : Option Decoded → Outcome
said_field (Some (D.Feet z)) = answer 1 (signed z)
said_field (Some D.NoAltitude) = answer 2 []
said_field (Some D.Metric) = answer 3 []
said_field (Some D.Illegal) = answer 4 []
said_field None = answer 5 []

-- What the reader's result says.
abbrev pub said_altitude : Result (Option Decoded) Refusal → Outcome
said_altitude = said_by said_field

-- What a Writing says; 'no such field' is the reader's.
abbrev pub said_written : Writing → Outcome
said_written W.Written = done
said_written W.NoSuchField = answer 5 []

-- What the writer's result says.
abbrev pub said_writing : Result Writing Refusal → Outcome
said_writing = said_by said_written

-- 'A reply in another format is answered 'no such field' by reader and writer, and nothing is written.'
unfoldable pub reading_of : List ℕ → Option Decoded
reading_of m = cond (has_altitude m) (Some (decoded_of (altitude_code m))) None

-- Rows 1 and 5, which the code asks first.
unfoldable pub checked : List ℕ → Outcome
checked m =
    unless (is_message_length (length m)) wrong_length
    (unless (first_bit_agrees m) first_bit_contradicts
    done)

-- 'Checks: 1 and 5 hold for both; 7 …; after 1 to 6, before 'no such field'.'
unfoldable pub reading_outcome : List ℕ → Outcome
reading_outcome m =
    unless (is_message_length (length m)) wrong_length
    (unless (first_bit_agrees m) first_bit_contradicts
    (said_altitude (Ok (reading_of m))))

unfoldable pub writing_outcome : List ℕ → ℤ → ℕ → Outcome
writing_outcome m z s =
    unless (is_message_length (length m)) wrong_length
    (unless (first_bit_agrees m) first_bit_contradicts
    (unless (in_code z s) altitude_not_in_code
    (said_writing (Ok (cond (has_altitude m) W.Written W.NoSuchField)))))

-- The message after the call.
unfoldable pub writing_after : List ℕ → ℤ → ℕ → List ℕ
writing_after m z s = left (writing_outcome m z s) m (cond (has_altitude m) (with_code m (code_of z s)) m)
