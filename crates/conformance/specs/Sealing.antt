-- Demand 2: 'Sealing, reading and accepting equal the Mode S definitions of ATC-117 and Annex 10 Volume IV. An
-- interrogation sealed for an address is read as that address. A message read as an address is the seal of its own field
-- for it.' Here what concerns sealing and reading.
use Rattle.std.specs.Prelude.{ℕ, ◌-◌, ◌*◌, ◌/◌, ◌%◌, ◌^◌, ◌<◌, ◌≤◌, ◌≡◌, ◌↔◌, true, List, length}
use Rattle.std.specs.Int.Bits.{bit_xor}
use Rattle.division.specs.Polynomial.{product}
use Rattle.division.specs.Division.{generator, remainder, address_read, ReadsAs}
use Rattle.message.specs.Message.{number, Bytes, field, parity_field, is_message_length, first_bit_agrees}
use Rattle.outcome.specs.Outcomes.{done}
use Rattle.encoder.specs.Seals.{reply_seal, interrogation_seal, seal_outcome, interrogation_after}
use Rattle.division.specs.Division.{Carries}

-- A message of 7 or 14 bytes, whatever stands in its parity field.
unfoldable pub Message : List ℕ → Type 0
Message m = Bytes m × (is_message_length (length m) ≡ true)

-- The coefficient of x^k of a polynomial, and bit i of a parity field, i from 1 to 24.
unfoldable pub coefficient : ℕ → ℕ → ℕ
coefficient k n = n / 2 ^ k % 2

unfoldable pub parity_bit : ℕ → List ℕ → ℕ
parity_bit i m = coefficient (24 - i) (number (parity_field m))

-- 'R is the remainder of x^24·M divided by G.'
unfoldable pub remainder_of_field : List ℕ → ℕ
remainder_of_field m = remainder (number (field m) * 2 ^ 24)

-- 'Reply seal for word W: parity field = R + W' (ATC-117, 3-10), bit by bit: bit i is the coefficient of x^(24−i) of each.
unfoldable pub ReplyBits : Type 0
ReplyBits =
    (m : List ℕ) (w i : ℕ) → Message m → w < 2 ^ 24 → 1 ≤ i → i ≤ 24
    → (parity_bit i (reply_seal m w) ≡ bit_xor (coefficient (24 - i) (remainder_of_field m)) (coefficient (24 - i) w))
    × (field (reply_seal m w) ≡ field m)

-- 'Interrogation seal for address A: parity field = R + the coefficients x^47 to x^24 of A·G, in that order' (ATC-117, 3-1
-- to 3-3; Annex 10 Volume IV): overlay bit i is the coefficient of x^(48−i) of A·G.
unfoldable pub InterrogationBits : Type 0
InterrogationBits =
    (m : List ℕ) (a i : ℕ) → Message m → a < 2 ^ 24 → 1 ≤ i → i ≤ 24
    → (parity_bit i (interrogation_seal m a) ≡ bit_xor (coefficient (24 - i) (remainder_of_field m)) (coefficient (48 - i) (product a generator)))
    × (field (interrogation_seal m a) ≡ field m)

-- A reply sealed for W carries W and no other word.
unfoldable pub ReplyCarries : Type 0
ReplyCarries = (m : List ℕ) (w v : ℕ) → Message m → w < 2 ^ 24 → Carries (number (reply_seal m w)) v ↔ (v ≡ w)

-- For its field no other parity field carries W: a message that carries W is the reply seal of its own field for W.
unfoldable pub CarriesReply : Type 0
CarriesReply = (m : List ℕ) (w : ℕ) → Message m → Carries (number m) w → m ≡ reply_seal m w

-- 'An interrogation sealed for an address is read as that address.'
unfoldable pub SealedIsRead : Type 0
SealedIsRead =
    (m : List ℕ) (a : ℕ) → Message m → a < 2 ^ 24
    → (address_read (number (interrogation_seal m a)) ≡ a) × ReadsAs (number (interrogation_seal m a)) a

-- 'A message read as an address is the seal of its own field for it.'
unfoldable pub ReadIsSealed : Type 0
ReadIsSealed = (m : List ℕ) (a : ℕ) → Message m → a < 2 ^ 24 → ReadsAs (number m) a → m ≡ interrogation_seal m a

-- Both for the calls themselves, wherever no row refuses: a seal that was not refused is read as its address, and sealing
-- a message for the address that it is read as leaves it as it is, unless its first bit contradicts its length.
unfoldable pub SealedCallIsRead : Type 0
SealedCallIsRead =
    (m : List ℕ) (a : ℕ) → Bytes m → seal_outcome m a ≡ done → address_read (number (interrogation_after m a)) ≡ a

unfoldable pub ReadIsSealedCall : Type 0
ReadIsSealedCall =
    (m : List ℕ) (a : ℕ) → Message m → a < 2 ^ 24 → first_bit_agrees m ≡ true → ReadsAs (number m) a → interrogation_after m a ≡ m
