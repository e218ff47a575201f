-- The two encoders of the parity field, which document 01 calls seals.
use Rattle.std.specs.Prelude.{ℕ, ◌/◌, ◌%◌, ◌^◌, List, [], ◌∷◌, ◌++◌, length, Result}
use Rattle.std.specs.Int.Bits.{bit_xor}
use Rattle.division.specs.Division.{parity, overlay}
use Rattle.message.specs.Message.{number, field, is_message_length, first_bit_agrees, is_word}
use Rattle.outcome.specs.Outcomes.{Outcome, done, unless, admission, left}
use Rattle.outcome.specs.Refusals.{wrong_length, word_too_large, first_bit_contradicts}
use Rattle.outcome.specs.declared.Refusal.{Refusal}

-- The three bytes of a 24-bit word, its x^23 in the first bit.
unfoldable pub word_bytes : ℕ → List ℕ
word_bytes w = w / 2 ^ 16 ∷ w / 2 ^ 8 % 2 ^ 8 ∷ w % 2 ^ 8 ∷ []

-- A message with another parity field: the field bytes stay, and what stood in the parity field goes.
unfoldable pub with_parity : List ℕ → ℕ → List ℕ
with_parity m p = field m ++ word_bytes p

-- The parity field of a reply for the word W: R + W (ATC-117, 3-10 and 3-11).
unfoldable pub reply_parity : List ℕ → ℕ → ℕ
reply_parity f w = bit_xor (parity (number f)) w

-- The parity field of an interrogation for the address A: R + the coefficients x^47 to x^24 of A·G (ATC-117, 3-1 to
-- 3-3; Annex 10 Volume IV).
unfoldable pub interrogation_parity : List ℕ → ℕ → ℕ
interrogation_parity f a = bit_xor (parity (number f)) (overlay a)

-- The sealed message, before any refusal.
unfoldable pub reply_seal : List ℕ → ℕ → List ℕ
reply_seal m w = with_parity m (reply_parity (field m) w)

unfoldable pub interrogation_seal : List ℕ → ℕ → List ℕ
interrogation_seal m a = with_parity m (interrogation_parity (field m) a)

-- What a seal answers: rows 1, 3 and 5 of the refusals, or that it is done.
unfoldable pub seal_outcome : List ℕ → ℕ → Outcome
seal_outcome m w =
    unless (is_message_length (length m)) wrong_length
    (unless (is_word w) word_too_large
    (unless (first_bit_agrees m) first_bit_contradicts
    done))

-- Sealed, or the refusal.
abbrev pub said : Result Unit Refusal → Outcome
said = admission

unfoldable pub reply_after : List ℕ → ℕ → List ℕ
reply_after m w = left (seal_outcome m w) m (reply_seal m w)

unfoldable pub interrogation_after : List ℕ → ℕ → List ℕ
interrogation_after m a = left (seal_outcome m a) m (interrogation_seal m a)
