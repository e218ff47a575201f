-- Extended length messages from the encoder to the receiver (document 02, Point 7).
use Rattle.std.specs.Prelude.{ℕ, ◌≤◌, ◌<◌, ◌≡◌, ◌⊎◌, true, List, [], ◌∷◌, ◌++◌, leb, length}
use Rattle.outcome.specs.Outcomes.{done}
use Rattle.message.specs.Message.{Bytes}
use Rattle.message.specs.Bits.{inverted}
use Rattle.encoder.specs.Seals.{seal_outcome, interrogation_after}
use Rattle.transponder.specs.Receptions.{Permitted, reception_outcome}
use Rattle.uplink_elm.specs.declared.Receiver.{Receiver}
use Rattle.uplink_elm.specs.Segments.{is_extended, reply_control, segment_number, segment, is_held, segment_at}
use Rattle.uplink_elm.specs.Receiving.{is_whole, progress_of, with_progress, receiving_outcome, receiver_after, segments_after}
use Rattle.uplink_elm_meaning.specs.Running.{Call, State, fresh, after_all}
use Rattle.conformance.specs.Bursts.{Burst}

-- The message is an interrogation of format 24 with this RC, this NC and these bytes as its segment, which the interrogation seal
-- for the address, not refused, left so.
pub record Sent (address control number : ℕ) (bytes m : List ℕ) : Type 0 where
  pub unsealed : List ℕ
  pub are_bytes : Bytes unsealed
  pub not-refused : seal_outcome unsealed address ≡ done
  pub sealed : m ≡ interrogation_after unsealed address
  pub format : is_extended unsealed ≡ true
  pub control_is : reply_control unsealed ≡ control
  pub number_is : segment_number unsealed ≡ number
  pub segment_is : segment unsealed ≡ bytes

-- Each of some messages, and one of them, is such.
unfoldable pub Each : (List ℕ → Type 0) → List (List ℕ) → Type 0
Each P [] = Unit
Each P (m ∷ ms) = P m × Each P ms

unfoldable pub Some : (List ℕ → Type 0) → List (List ℕ) → Type 0
Some P [] = ⊥
Some P (m ∷ ms) = P m ⊎ Some P ms

-- Received one after the other with this own address.
unfoldable pub received : ℕ → List (List ℕ) → List Call
received own [] = []
received own (m ∷ ms) = record { own = own; message = m } ∷ received own ms

-- Segments 0 to the last, sealed for the receiver's own address, with RC 0 for the last, which opens, and then RC 1 for the others, in
-- any order and with repetitions: whatever calls went before, the receiver is whole, holds exactly those numbers, and stores exactly
-- those bytes.
unfoldable pub SentIsReceived : Type 0
SentIsReceived =
    (own last : ℕ) (bytes : ℕ → List ℕ) (before : List Call) (opening : List ℕ) (others : List (List ℕ)) (places : List ℕ)
    → Permitted own → length places ≡ 160 → 1 ≤ last
    → Sent own 0 last (bytes last) opening
    → Each (λ m. (k : ℕ) × ((k ≤ last) × Sent own 1 k (bytes k) m)) others
    → ((k : ℕ) → k < last → Some (Sent own 1 k (bytes k)) others)
    → let t : State = after_all (before ++ received own (opening ∷ others)) (fresh places) in
    (is_whole t.receiver ≡ true) × (t.receiver.last ≡ last)
    × ((k : ℕ) → is_held t.receiver.held k ≡ leb k last)
    × ((k : ℕ) → k ≤ last → segment_at t.places k ≡ bytes k)

-- An interrogation that was sealed for the own address and hit by a burst changes nothing, whatever it was and whatever the receiver
-- holds; the answer is the transponder's, with the progress as it was.
unfoldable pub BurstChangesNothing : Type 0
BurstChangesNothing =
    (own : ℕ) (m : List ℕ) (w d : ℕ) (r : Receiver) (places : List ℕ)
    → Bytes m → seal_outcome m own ≡ done → Burst (interrogation_after m own) w d
    → let hit : List ℕ = inverted (interrogation_after m own) d in
    (receiver_after own hit r ≡ r) × (segments_after own hit r places ≡ places)
    × (receiving_outcome own hit r ≡ with_progress (reception_outcome own hit) (progress_of r))
