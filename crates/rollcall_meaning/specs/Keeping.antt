-- What each call on the roll-call table keeps and changes (document 02, Points 4 and 12), as statements about the definitions that the
-- contracts name.
use Rattle.std.specs.Prelude.{ℕ, ◌<◌, ◌≤◌, ◌≡◌, ◌↔◌, ◌⊎◌, true, false, cond, ◌&&◌, List, eqb, length}
use Rattle.std.proofs.Math.Option.{none, some}
use Rattle.outcome.specs.Outcomes.{Unrefused}
use Rattle.outcome.specs.Outcomes.Outcome.{refusal}
use Rattle.rollcall_table.specs.declared.Record.{Record}
use Rattle.rollcall_table.specs.declared.Sighting.{Sighting}
use Rattle.rollcall_table.specs.Table.{largest, record_at, Sound, is_sound, holds, unmarked, record_of}
use Rattle.rollcall_plans.specs.Calls.{added, renewed, absent, held}
use Rattle.rollcall_meaning.specs.Maps.{value_of, map_of, told, stands_over, is_some, Call, Table, outcome, after}
use Rattle.rollcall_meaning.specs.Maps.Call.{clear, add, remove, find}

-- ---- soundness

-- The check that the code makes is passed exactly by the sound tables.
unfoldable pub CheckedIsSound : Type 0
CheckedIsSound = (rs : List Record) (ps : List ℕ) (n : ℕ) → (is_sound rs ps n ≡ true) ↔ Sound rs ps n

abbrev pub SoundTable : Table → Type 0
SoundTable t = Sound t.records t.places t.count

-- 'the two lengths differ or lie outside 1 to' the largest, the other way round
abbrev pub RightLengths : Table → Type 0
RightLengths t = (length t.records ≡ length t.places) × ((1 ≤ length t.records) × (length t.records ≤ largest))

-- Every call leaves a sound table sound, 'the list always names every live record once'; and clear mends any table of right
-- lengths.
unfoldable pub KeepsSound : Type 0
KeepsSound = (t : Table) (c : Call) → SoundTable t → SoundTable (after c t)

unfoldable pub ClearMends : Type 0
ClearMends = (t : Table) → RightLengths t → SoundTable (after clear t)

-- 'No address is live twice'
unfoldable pub NoneLiveTwice : Type 0
NoneLiveTwice = (t : Table) → SoundTable t → (a i j : ℕ) → holds (record_at t.records i) a ≡ true → holds (record_at t.records j) a ≡ true → i ≡ j

-- ---- the table as a map

-- 'Find gives the live record of the address', for an address of 24 bits: what the map has of it; 'absent' exactly where it has
-- nothing.
unfoldable pub FindGives : Type 0
FindGives = (t : Table) (a : ℕ) → SoundTable t → a ≤ 0xFFFFFF → outcome (find a) t ≡ told a (map_of t.records a)

unfoldable pub AbsentWhereNothing : Type 0
AbsentWhereNothing =
    (t : Table) (a : ℕ) → SoundTable t → a ≤ 0xFFFFFF
    → ((outcome (find a) t ≡ absent) ↔ (map_of t.records a ≡ none)) × ((outcome (remove a) t ≡ absent) ↔ (map_of t.records a ≡ none))

-- 'Finding or removing an address that is not live is answered 'absent' and changes nothing.' Find changes nothing ever.
unfoldable pub AbsentChangesNothing : Type 0
AbsentChangesNothing = (t : Table) (a : ℕ) → (outcome (remove a) t ≡ absent → after (remove a) t ≡ t) × (after (find a) t ≡ t)

-- 'Renewing an address replaces its altitude and time': a reply that is not refused changes the map where it stands, at that
-- address alone; 'otherwise the record held remains'.
unfoldable pub AddPuts : Type 0
AddPuts =
    (t : Table) (s : Sighting) → SoundTable t → Unrefused (outcome (add s) t)
    → (b : ℕ) → map_of (after (add s) t).records b
    ≡ cond (stands_over (value_of (record_of s)) (map_of t.records s.address) && eqb b s.address) (some (value_of (record_of s))) (map_of t.records b)

-- The answer 'says whether the new reply stands': added, where the address is new; of a live one renewed or held.
unfoldable pub SaysWhetherItStands : Type 0
SaysWhetherItStands =
    (t : Table) (s : Sighting) → SoundTable t → Unrefused (outcome (add s) t)
    → outcome (add s) t
    ≡ cond (is_some (map_of t.records s.address)) (cond (stands_over (value_of (record_of s)) (map_of t.records s.address)) renewed held) added

-- 'Otherwise the record held remains': no record, no place and no count changes.
unfoldable pub HeldChangesNothing : Type 0
HeldChangesNothing = (t : Table) (s : Sighting) → outcome (add s) t ≡ held → after (add s) t ≡ t

-- '9, the address is new and every place is live'
unfoldable pub FullExactly : Type 0
FullExactly =
    (t : Table) (s : Sighting) → SoundTable t → s.address ≤ 0xFFFFFF
    → (outcome (add s) t ≡ refusal 9) ↔ ((map_of t.records s.address ≡ none) × ((i : ℕ) → i < length t.records → (record_at t.records i).live ≡ true))

-- Removing takes that address out of the map, and no other.
unfoldable pub RemoveTakesOut : Type 0
RemoveTakesOut =
    (t : Table) (a : ℕ) → SoundTable t → a ≤ 0xFFFFFF
    → (b : ℕ) → map_of (after (remove a) t).records b ≡ cond (eqb b a) none (map_of t.records b)

unfoldable pub ClearEmpties : Type 0
ClearEmpties = (t : Table) → RightLengths t → (b : ℕ) → map_of (after clear t).records b ≡ none

-- ---- record by record

-- 'In records, clear and remove unset only live marks'
unfoldable pub ClearUnsetsMarks : Type 0
ClearUnsetsMarks = (t : Table) (i : ℕ) → (record_at (after clear t).records i ≡ record_at t.records i) ⊎ (record_at (after clear t).records i ≡ unmarked (record_at t.records i))

-- remove, of the record of that address alone
unfoldable pub RemoveUnsetsMark : Type 0
RemoveUnsetsMark =
    (t : Table) (a i : ℕ)
    → (record_at (after (remove a) t).records i ≡ record_at t.records i)
    ⊎ ((holds (record_at t.records i) a ≡ true) × (record_at (after (remove a) t).records i ≡ unmarked (record_at t.records i)))

-- 'A new address gets a place without a live record …; no other record changes': a record that add or renew changes is the
-- sighting's afterwards, and was the address's before, or was not live; and only one changes. Where the record held remains,
-- none does.
unfoldable pub AddChangesOne : Type 0
AddChangesOne =
    (t : Table) (s : Sighting) → Unrefused (outcome (add s) t) → (outcome (add s) t ≡ held → ⊥)
    → (p : ℕ) × (((holds (record_at t.records p) s.address ≡ true) ⊎ ((record_at t.records p).live ≡ false)) × ((record_at (after (add s) t).records p ≡ record_of s) × ((i : ℕ) → (i ≡ p → ⊥) → record_at (after (add s) t).records i ≡ record_at t.records i)))
