-- The two-antenna transponder (document 02, Point 5).
--
-- u and l are the bytes of the upper and of the lower buffer, p and q their levels.
use Rattle.std.specs.Prelude.{ℕ, ◌≤◌, ◌<◌, ◌≡◌, ◌↔◌, ◌⊎◌, List, [], length, Some, None, Ok, Err}
use Rattle.outcome.specs.Outcomes.{done}
use Rattle.outcome.specs.Outcomes.Outcome.{refusal}
use Rattle.outcome.specs.declared.Refusal.{Refusal}
use Rattle.message.specs.Message.{number, Bytes, field, first_bit, format_number}
use Rattle.message.specs.Bits.{inverted}
use Rattle.division.specs.Division.{ReadsAs}
use Rattle.encoder.specs.Seals.{seal_outcome, interrogation_after}
use Rattle.transponder.specs.Receptions.{Permitted, reception_outcome, answered}
use Rattle.transponder.specs.declared.Reception.TheVariants.{Own, AllCall, Broadcast}
use Rattle.antennas.specs.Antennas.{antenna_of, said, Part, part_of}
use Rattle.antennas.specs.declared.Antenna.TheVariants.{Upper, Lower}
use Rattle.conformance.specs.Bursts.{Burst}

-- ---- what is taken

-- An interrogation to which neither row 1 nor row 5 applies: 'A first bit 0 belongs to n = 56 and 1 to n = 112.'
unfoldable pub Whole : List ℕ → Type 0
Whole m = ((length m ≡ 7) × (first_bit m ≡ 0)) ⊎ ((length m ≡ 14) × (first_bit m ≡ 1))

-- A buffer that is taken: read as the own address; or as FFFFFF, in format 11, 20 or 21.
unfoldable pub Taken : ℕ → List ℕ → Type 0
Taken own m =
    Whole m
    × (ReadsAs (number m) own
    ⊎ (ReadsAs (number m) 0xFFFFFF × ((format_number m ≡ 11) ⊎ ((format_number m ≡ 20) ⊎ (format_number m ≡ 21)))))

-- 'A buffer is taken when the transponder would accept it as own, all-call or broadcast.'
unfoldable pub TakenIsAccepted : Type 0
TakenIsAccepted =
    (own : ℕ) (m : List ℕ) → Permitted own
    → Taken own m
    ↔ ((reception_outcome own m ≡ answered Own) ⊎ ((reception_outcome own m ≡ answered AllCall) ⊎ (reception_outcome own m ≡ answered Broadcast)))

-- 'A buffer that would be refused is simply not taken.'
unfoldable pub RefusedNotTaken : Type 0
RefusedNotTaken = (own : ℕ) (m : List ℕ) (n : ℕ) → Permitted own → reception_outcome own m ≡ refusal n → Taken own m → ⊥

-- ---- the companion

-- 'A companion call with the same inputs answers upper, lower or neither', each exactly when: upper where the upper buffer is
-- taken, and the lower is not or has no higher level ('equal levels give the upper');
unfoldable pub SaysUpper : Type 0
SaysUpper =
    (own : ℕ) (u : List ℕ) (p : ℕ) (l : List ℕ) (q : ℕ)
    → (antenna_of own u p l q ≡ Ok (Some Upper)) ↔ (Permitted own × Taken own u × (Taken own l → q ≤ p))

-- lower where the lower buffer is taken, and the upper is not or has a lower level ('the higher level wins');
unfoldable pub SaysLower : Type 0
SaysLower =
    (own : ℕ) (u : List ℕ) (p : ℕ) (l : List ℕ) (q : ℕ)
    → (antenna_of own u p l q ≡ Ok (Some Lower)) ↔ (Permitted own × Taken own l × (Taken own u → p < q))

-- neither where 'neither is'. Whether a buffer is own, an all-call or a broadcast makes no difference.
unfoldable pub SaysNeither : Type 0
SaysNeither =
    (own : ℕ) (u : List ℕ) (p : ℕ) (l : List ℕ) (q : ℕ)
    → (antenna_of own u p l q ≡ Ok None) ↔ (Permitted own × (Taken own u → ⊥) × (Taken own l → ⊥))

-- 'or refusal 3 or 6 for the own address': that of its row, exactly when it applies, whatever the buffers are.
unfoldable pub SaysRefused : Type 0
SaysRefused =
    (own : ℕ) (u : List ℕ) (p : ℕ) (l : List ℕ) (q n : ℕ)
    → (said (antenna_of own u p l q) ≡ refusal n)
    ↔ (((n ≡ 3) × (0xFFFFFF < own)) ⊎ ((n ≡ 6) × ((own ≡ 0x000000) ⊎ (own ≡ 0xFFFFFF))))

-- ---- the part

-- What is returned for two buffers, each with where it starts.
unfoldable pub returned : ℕ → Part → ℕ → Part → ℕ → Part
returned own upper p lower q = part_of (antenna_of own upper.1 p lower.1 q) upper lower

-- A part is the field of a buffer, in its place, and has bytes.
unfoldable pub IsField : Part → Part → Type 0
IsField part buffer = (part ≡ (buffer.0, field buffer.1)) × (part.1 ≡ [] → ⊥)

-- The fields of two buffers are in two places, or of other bytes. Those of one buffer that is given twice are not.
unfoldable pub Apart : Part → Part → Type 0
Apart upper lower = ◌≡◌ {A = Part} (upper.0, field upper.1) (lower.0, field lower.1) → ⊥

-- 'If one is taken, return its field bytes as a part of that caller's buffer': where the companion answers upper, the part is
-- the upper buffer's field, and where it is that, the companion answers upper.
unfoldable pub UpperPart : Type 0
UpperPart =
    (own : ℕ) (upper : Part) (p : ℕ) (lower : Part) (q : ℕ)
    → (antenna_of own upper.1 p lower.1 q ≡ Ok (Some Upper) → IsField (returned own upper p lower q) upper)
    × (Apart upper lower → IsField (returned own upper p lower q) upper → antenna_of own upper.1 p lower.1 q ≡ Ok (Some Upper))

-- The lower alike.
unfoldable pub LowerPart : Type 0
LowerPart =
    (own : ℕ) (upper : Part) (p : ℕ) (lower : Part) (q : ℕ)
    → (antenna_of own upper.1 p lower.1 q ≡ Ok (Some Lower) → IsField (returned own upper p lower q) lower)
    × (Apart upper lower → IsField (returned own upper p lower q) lower → antenna_of own upper.1 p lower.1 q ≡ Ok (Some Lower))

-- 'If neither is, return the empty part of the upper buffer'; 'where it refuses, the part is the empty one'. Nowhere else has
-- it no bytes.
unfoldable pub EmptyPart : Type 0
EmptyPart =
    (own : ℕ) (upper : Part) (p : ℕ) (lower : Part) (q : ℕ)
    → ((antenna_of own upper.1 p lower.1 q ≡ Ok None) ⊎ ((r : Refusal) × (antenna_of own upper.1 p lower.1 q ≡ Err r))
    → returned own upper p lower q ≡ (upper.0, []))
    × ((returned own upper p lower q).1 ≡ []
    → (antenna_of own upper.1 p lower.1 q ≡ Ok None) ⊎ ((r : Refusal) × (antenna_of own upper.1 p lower.1 q ≡ Err r)))

-- 'its field bytes': 4 or 11.
unfoldable pub PartLengths : Type 0
PartLengths =
    (own : ℕ) (upper : Part) (p : ℕ) (lower : Part) (q : ℕ)
    → ((returned own upper p lower q).1 ≡ [] → ⊥)
    → (length (returned own upper p lower q).1 ≡ 4) ⊎ (length (returned own upper p lower q).1 ≡ 11)

-- ---- bursts

-- 'An own interrogation hit by a burst on one antenna therefore never displaces an undamaged one on the other, unless the
-- burst made it an all-call or a broadcast.' m and n were sealed for the own address, and m's seal was hit; on either antenna,
-- at any levels, n's is the one taken, and so its field is returned (`UpperPart`, `LowerPart`).
unfoldable pub BurstNeverDisplaces : Type 0
BurstNeverDisplaces =
    (own : ℕ) (m n : List ℕ) (w d p q : ℕ) → Permitted own → Bytes m → Bytes n → seal_outcome m own ≡ done → seal_outcome n own ≡ done
    → Burst (interrogation_after m own) w d
    → (reception_outcome own (inverted (interrogation_after m own) d) ≡ answered AllCall → ⊥)
    → (reception_outcome own (inverted (interrogation_after m own) d) ≡ answered Broadcast → ⊥)
    → (antenna_of own (inverted (interrogation_after m own) d) p (interrogation_after n own) q ≡ Ok (Some Lower))
    × (antenna_of own (interrogation_after n own) p (inverted (interrogation_after m own) d) q ≡ Ok (Some Upper))
