-- What one call transmits (document 02, Point 10), in terms that do not follow the definitions' recursion.
use Rattle.std.specs.Prelude.{ℕ, suc, ◌%◌, ◌<◌, ◌≤◌, ◌≡◌, ◌↔◌, ◌⊎◌, true, false, List, [], ◌∷◌, length, get_or}
use Rattle.outcome.specs.Outcomes.{done}
use Rattle.encoder.specs.Seals.{seal_outcome, interrogation_after}
use Rattle.uplink_elm.specs.Segments.{is_extended, reply_control, segment_number, segment, is_held}
use Rattle.uplink_elm_sending.specs.Sending.{unsealed, transmission, unacknowledged, round_numbers}

-- Numbers from m on, each above the one before; and one of a list.
unfoldable pub Ascending : ℕ → List ℕ → Type 0
Ascending m [] = Unit {0}
Ascending m (i ∷ l) = (m ≤ i) × Ascending (suc i) l

unfoldable pub Among : ℕ → List ℕ → Type 0
Among i [] = ⊥
Among i (j ∷ l) = (i ≡ j) ⊎ Among i l

-- 'the segments not yet acknowledged, lowest first': the numbers of the message whose bit is not set, and no others, ascending. Bits
-- 'past the last segment are ignored'.
unfoldable pub LowestFirst : Type 0
LowestFirst =
    (acknowledgement count : ℕ) → Ascending 0 (unacknowledged acknowledgement count)
    × ((i : ℕ) → Among i (unacknowledged acknowledgement count) ↔ ((i < count) × (is_held acknowledgement i ≡ false)))

-- 's transmissions .., starting over when they run out': where w segments are not acknowledged, the transmission at place i, from 0 on, is
-- that of the one at place i modulo w.
unfoldable pub StartsOver : Type 0
StartsOver =
    (acknowledgement count s : ℕ) → let left : List ℕ = unacknowledged acknowledgement count in
    0 < length left
    → (length (round_numbers acknowledgement count s) ≡ s)
    × ((i : ℕ) → i < s → get_or (round_numbers acknowledgement count s) i 0 ≡ get_or left (i % length left) 0)

-- 'once all are, none'
unfoldable pub NoneWhenAll : Type 0
NoneWhenAll =
    (acknowledgement count s : ℕ) → ((i : ℕ) → i < count → is_held acknowledgement i ≡ true) → round_numbers acknowledgement count s ≡ []

-- 'sealed interrogations, 14 bytes each': what the interrogation seal for the address, not refused, leaves of a message of format 24 with
-- this RC, this NC and these bytes; also for 000000 and FFFFFF.
unfoldable pub IsSealed : Type 0
IsSealed =
    (address control number : ℕ) (bytes : List ℕ) → address ≤ 0xFFFFFF → control ≤ 2 → number < 16 → length bytes ≡ 10
    → let u : List ℕ = unsealed control number bytes in
    (seal_outcome u address ≡ done) × (transmission address control number bytes ≡ interrogation_after u address)
    × (length (transmission address control number bytes) ≡ 14)
    × (is_extended u ≡ true) × (reply_control u ≡ control) × (segment_number u ≡ number) × (segment u ≡ bytes)
