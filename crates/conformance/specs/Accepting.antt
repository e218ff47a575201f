-- Demand 2, what concerns accepting, with the broadcasts of document 02, Point 2, and the first sentence of demand 3.
use Rattle.std.specs.Prelude.{ℕ, ◌^◌, ◌<◌, ◌≡◌, ◌↔◌, ◌⊎◌, List}
use Rattle.outcome.specs.Outcomes.{done, Unrefused}
use Rattle.message.specs.Message.{number, Bytes, format_number}
use Rattle.message.specs.Bits.{inverted}
use Rattle.division.specs.Division.{ReadsAs}
use Rattle.encoder.specs.Seals.{seal_outcome, interrogation_after}
use Rattle.transponder.specs.Receptions.{reception_outcome, answered}
use Rattle.transponder.specs.declared.Reception.{Reception}
use Rattle.transponder.specs.declared.Reception.TheVariants.{Own, AllCall, Broadcast, NotOurs}
use Rattle.conformance.specs.Bursts.{Burst}

-- The condition under which an answer is due, where the address read from U is the A of x^24·U = (x^24·h + A)·G + r with r
-- of degree below 24 (ATC-117, 3-6). All-calls are UF 11, broadcasts UF 20 and 21, both with the address FFFFFF (Annex 10
-- Volume IV).
unfoldable pub Due : ℕ → List ℕ → Reception → Type 0
Due own m Own = ReadsAs (number m) own
Due own m AllCall = ReadsAs (number m) 0xFFFFFF × (format_number m ≡ 11)
Due own m Broadcast = ReadsAs (number m) 0xFFFFFF × ((format_number m ≡ 20) ⊎ (format_number m ≡ 21))
Due own m (NotOurs a) =
    (a < 2 ^ 24) × ReadsAs (number m) a × (a ≡ own → ⊥)
    × (a ≡ 0xFFFFFF → (format_number m ≡ 11 → ⊥) × (format_number m ≡ 20 → ⊥) × (format_number m ≡ 21 → ⊥))

-- Of a call that no row refuses, ours is due, and only ours is due.
unfoldable pub OursIsDue : Type 0
OursIsDue =
    (own : ℕ) (m : List ℕ) → Unrefused (reception_outcome own m)
    → (r : Reception) × (reception_outcome own m ≡ answered r) × Due own m r

unfoldable pub OnlyOneIsDue : Type 0
OnlyOneIsDue =
    (own : ℕ) (m : List ℕ) → Unrefused (reception_outcome own m)
    → (r : Reception) → Due own m r → reception_outcome own m ≡ answered r

-- So exactly one is due: the four conditions exclude each other, and every interrogation that no row refuses meets one.
unfoldable pub ExactlyOneIsDue : Type 0
ExactlyOneIsDue =
    (own : ℕ) (m : List ℕ) → Unrefused (reception_outcome own m)
    → (r : Reception) × ((s : Reception) → Due own m s ↔ (s ≡ r))

-- 'own: the address read is A (this alone is acceptance as addressed to it)'
unfoldable pub SaysOwn : Type 0
SaysOwn =
    (own : ℕ) (m : List ℕ) → Unrefused (reception_outcome own m)
    → (reception_outcome own m ≡ answered Own) ↔ ReadsAs (number m) own

-- 'all-call: it is FFFFFF and the format number is 11'
unfoldable pub SaysAllCall : Type 0
SaysAllCall =
    (own : ℕ) (m : List ℕ) → Unrefused (reception_outcome own m)
    → (reception_outcome own m ≡ answered AllCall) ↔ (ReadsAs (number m) 0xFFFFFF × (format_number m ≡ 11))

-- 'Sites now send broadcast data in uplink formats 20 and 21 with address FFFFFF. The transponder must answer 'broadcast'
-- there'
unfoldable pub SaysBroadcast : Type 0
SaysBroadcast =
    (own : ℕ) (m : List ℕ) → Unrefused (reception_outcome own m)
    → (reception_outcome own m ≡ answered Broadcast)
    ↔ (ReadsAs (number m) 0xFFFFFF × ((format_number m ≡ 20) ⊎ (format_number m ≡ 21)))

-- 'not ours, with the address read: everything else'; 'FFFFFF in formats other than 11, 20 and 21 remains 'not ours''
unfoldable pub SaysNotOurs : Type 0
SaysNotOurs =
    (own : ℕ) (m : List ℕ) (a : ℕ) → Unrefused (reception_outcome own m)
    → (reception_outcome own m ≡ answered (NotOurs a))
    ↔ ((a < 2 ^ 24) × ReadsAs (number m) a × (a ≡ own → ⊥)
    × (a ≡ 0xFFFFFF → (format_number m ≡ 11 → ⊥) × (format_number m ≡ 20 → ⊥) × (format_number m ≡ 21 → ⊥)))

-- 'Whichever 24 consecutive bits a burst falls in, and whichever of them, one or more, it changes, an interrogation so hit
-- is never accepted as addressed to the transponder it was sealed for.' The message
-- is one that the seal, not refused, left so.
unfoldable pub BurstNeverOwn : Type 0
BurstNeverOwn =
    (m : List ℕ) (a w d : ℕ) → Bytes m → seal_outcome m a ≡ done → Burst (interrogation_after m a) w d
    → reception_outcome a (inverted (interrogation_after m a) d) ≡ answered Own → ⊥
