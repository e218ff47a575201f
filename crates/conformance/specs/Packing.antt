-- The calls from C (document 02, Point 6): 'Different answers give different numbers, and each call fulfils the same
-- definitions as the Rattle call it stands for.' The second is the contracts of `mode_s`, whose right sides are `number_of` here.
use Rattle.std.specs.Prelude.{ℕ, ◌≡◌, ◌↔◌, List, length}
use Rattle.outcome.specs.Outcomes.{Outcome}
use Rattle.message.specs.Message.{Bytes}
use Rattle.encoder.specs.Seals.{seal_outcome}
use Rattle.transponder.specs.Receptions.{reception_outcome}
use Rattle.sensor.specs.Verdicts.{sensor_outcome}
use Rattle.remainders.specs.Recording.{remainders_outcome}
use Rattle.mode_s.specs.Packing.{Source, packed, Answer, answer_of, unpacked, Possible}
use Rattle.mode_s.specs.Packing.Source.{seal, transponder, sensor, recording}

-- A call from C, with what it is given: a message and a word, or an address; an own address and a message; a message,
-- confidence bits, a word and a limit; a recording of long replies and the words lent for their remainders.
pub data FromC : Type 0 where
  seal_reply : List ℕ → ℕ → FromC
  seal_interrogation : List ℕ → ℕ → FromC
  receive : ℕ → List ℕ → FromC
  correct : List ℕ → List ℕ → ℕ → ℕ → FromC
  divide : List ℕ → List ℕ → FromC

-- Whose answer it has, and the outcome: the one of the Rattle call that it stands for.
abbrev pub source_of : FromC → Source
source_of (seal_reply m w) = seal
source_of (seal_interrogation m a) = seal
source_of (receive own m) = transponder
source_of (correct m c w l) = sensor
source_of (divide s words) = recording

abbrev pub outcome_of : FromC → Outcome
outcome_of (seal_reply m w) = seal_outcome m w
outcome_of (seal_interrogation m a) = seal_outcome m a
outcome_of (receive own m) = reception_outcome own m
outcome_of (correct m c w l) = sensor_outcome m c w l
outcome_of (divide s words) = remainders_outcome s (length words)

-- Its answer, and the number that it gives.
abbrev pub answer_to : FromC → Answer
answer_to k = answer_of (source_of k) (outcome_of k)

abbrev pub number_of : FromC → ℕ
number_of k = packed (source_of k) (outcome_of k)

-- What a caller in C hands over are bytes.
abbrev pub OfBytes : FromC → Type 0
OfBytes (seal_reply m w) = Bytes m
OfBytes (seal_interrogation m a) = Bytes m
OfBytes (receive own m) = Bytes m
OfBytes (correct m c w l) = Bytes m × Bytes c
OfBytes (divide s words) = Bytes s

-- No call answers anything that `Possible` does not list.
unfoldable pub AnswersArePossible : Type 0
AnswersArePossible = (k : FromC) → OfBytes k → Possible (source_of k) (outcome_of k)

-- 'Different answers give different numbers', of one call and of different calls: two calls give one number exactly when they
-- have one answer.
unfoldable pub NumbersTellAnswers : Type 0
NumbersTellAnswers = (j k : FromC) → OfBytes j → OfBytes k → (number_of j ≡ number_of k) ↔ (answer_to j ≡ answer_to k)

-- The answer can be had back from the number alone.
unfoldable pub NumberGivesAnswer : Type 0
NumberGivesAnswer = (k : FromC) → OfBytes k → unpacked (number_of k) ≡ answer_to k
