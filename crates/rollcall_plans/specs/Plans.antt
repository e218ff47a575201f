-- What the private functions of the roll-call table hand to each other: where an address stands, and what a call is to change.
use Rattle.std.specs.Prelude.{ℕ, ◌+◌, ◌-◌, ◌≡◌, ◌≤◌, ◌<◌, true, cond, ◌&&◌, List, ltb, length, set, Option, Some, None, Result, Ok, Err, ⊤}
use Rattle.outcome.specs.declared.Refusal.{Refusal}
use Rattle.outcome.specs.declared.Refusal.TheVariants.{TableFull}
use Rattle.outcome.specs.Outcomes.{Outcome}
use Rattle.outcome.specs.Outcomes.Outcome.{refusal}
use Rattle.outcome.specs.Refusals.{number_of}
use Rattle.message.specs.Message.{is_word}
use Rattle.rollcall_table.specs.declared.Record.{Record}
use Rattle.rollcall_table.specs.declared.Sighting.{Sighting}
use Rattle.rollcall_table.specs.declared.table.Table.{Table}
use Rattle.rollcall_table.specs.Standing.{record_beats}
use Rattle.rollcall_table.specs.Checks.{raised_of}
use Rattle.rollcall_table.specs.Table.{record_at, place_at, is_sound, holds, holder, is_in, position, unmarked, unmarked_all}
use Rattle.rollcall_plans.specs.declared.Rolled.{Rolled}
use Rattle.rollcall_plans.specs.declared.Rolled.TheVariants.{Cleared, Added, Renewed, Removed, Found, Absent, Held}
use Rattle.rollcall_plans.specs.declared.Placed.{Placed}
use Rattle.rollcall_plans.specs.declared.Spot.{Spot}
use Rattle.rollcall_plans.specs.declared.Change.{Change}
use Rattle.rollcall_plans.specs.declared.Change.TheVariants.{Nothing, Unmarked, Replaced, Entered, Left}
use Rattle.rollcall_plans.specs.declared.Plan.{Plan}
use Rattle.rollcall_plans.specs.Calls.{said, checked, opened, closed, clear_outcome, clear_count, clear_records, remove_outcome, remove_count, remove_records, remove_places, add_outcome, add_count, add_records, add_places}

-- ---- where an address stands

-- The record at a place, with the place.
abbrev pub placed_at : List Record → ℕ → Placed
placed_at rs p = record { place = p; entry = record_at rs p }

-- The record that the list names at k; none past the count n or past the records.
abbrev pub listed_at : List Record → List ℕ → ℕ → ℕ → Option Placed
listed_at rs ps n k = cond (ltb k n && ltb (place_at ps k) (length rs)) (Some (placed_at rs (place_at ps k))) None

-- What is listed, where it is the live record of an address.
abbrev pub held_by : Option Placed → ℕ → Option Placed
held_by None a = None
held_by (Some l) a = cond (holds l.entry a) (Some l) None

-- The spot of an address that stands at k or is to stand there, by what is listed at k.
abbrev pub spot_by : ℕ → Option Placed → ℕ → Spot
spot_by k l a = record { at = k; held = held_by l a }

-- The spot of an address in a sound table.
unfoldable pub spot_of : List Record → List ℕ → ℕ → ℕ → Spot
spot_of rs ps n a = record { at = position rs ps n a; held = cond (is_in rs a) (Some (placed_at rs (holder rs a))) None }

-- A table that passed the rows 3 and 8 has the spot for an address.
abbrev pub IsSpotOf : Table → ℕ → Spot → Type 0
IsSpotOf t a s = (is_word a ≡ true) × (is_sound t.records.now t.places.now t.count ≡ true) × (s ≡ spot_of t.records.now t.places.now t.count a)

-- A table and an address that those rows refuse, whatever the call is to answer after them.
abbrev pub IsRefusalOf : Table → ℕ → Refusal → Type 0
IsRefusalOf t a r = (o : Outcome) → refusal (number_of r) ≡ checked t.records.now t.places.now t.count a o

-- ---- what a call is to change

-- A plan that changes nothing.
abbrev pub idle_of : Rolled → ℕ → Plan
idle_of answer n = record { answer = answer; count = n; change = Nothing }

abbrev pub found_by : Option Placed → Rolled
found_by None = Absent
found_by (Some l) = Found l.entry

abbrev pub clearing_plan : Plan
clearing_plan = record { answer = Cleared; count = 0; change = Unmarked }

abbrev pub removal_of : ℕ → Option Placed → ℕ → Plan
removal_of k None n = idle_of Absent n
removal_of k (Some l) n = record { answer = Removed; count = n - 1; change = Left k (record { place = l.place; entry = unmarked l.entry }) }

-- A new record at the place of one that is held, unless that one remains.
abbrev pub renewal_of : Placed → ℕ → Record → Plan
renewal_of l n r = cond (record_beats r l.entry) (record { answer = Renewed; count = n; change = Replaced (record { place = l.place; entry = r }) }) (idle_of Held n)

-- A new record at the free place f, which enters the list at k.
abbrev pub entrance_of : ℕ → ℕ → ℕ → Record → Plan
entrance_of k f n r = record { answer = Added; count = raised_of n; change = Entered k (record { place = f; entry = r }) }

-- The same where a place is free, or the refusal of a full table.
abbrev pub entrance_at : ℕ → Option ℕ → ℕ → Record → Result Plan Refusal
entrance_at k None n r = Err TableFull
entrance_at k (Some f) n r = Ok (entrance_of k f n r)

abbrev pub addition_of : ℕ → Option Placed → Option ℕ → ℕ → Record → Result Plan Refusal
addition_of k (Some l) f n r = Ok (renewal_of l n r)
addition_of k None f n r = entrance_at k f n r

-- ---- what a plan leaves, or a refusal

abbrev pub answer_of : Result Plan Refusal → Result Rolled Refusal
answer_of (Ok p) = Ok p.answer
answer_of (Err r) = Err r

abbrev pub count_of : Result Plan Refusal → ℕ → ℕ
count_of (Ok p) n = p.count
count_of (Err r) n = n

abbrev pub changed_records : Change → List Record → List Record
changed_records Nothing rs = rs
changed_records Unmarked rs = unmarked_all rs
changed_records (Replaced l) rs = set rs l.place l.entry
changed_records (Entered k l) rs = set rs l.place l.entry
changed_records (Left k l) rs = set rs l.place l.entry

-- Where n is the count before: a place enters the list, or leaves it.
abbrev pub changed_places : Change → ℕ → List ℕ → List ℕ
changed_places Nothing n ps = ps
changed_places Unmarked n ps = ps
changed_places (Replaced l) n ps = ps
changed_places (Entered k l) n ps = opened k (n + 1 - k) l.place ps
changed_places (Left k l) n ps = closed k (n - 1 - k) ps

abbrev pub records_of : Result Plan Refusal → List Record → List Record
records_of (Ok p) rs = changed_records p.change rs
records_of (Err r) rs = rs

abbrev pub places_of : Result Plan Refusal → ℕ → List ℕ → List ℕ
places_of (Ok p) n ps = changed_places p.change n ps
places_of (Err r) n ps = ps

-- A change lies within m records and k places, of which the list has n; its place fits the list's 16 bits.
abbrev pub Within : Change → ℕ → ℕ → ℕ → Type 0
Within Nothing n m k = ⊤
Within Unmarked n m k = ⊤
Within (Replaced l) n m k = l.place < m
Within (Entered at l) n m k = (l.place < m) × (l.place < 65536) × (at ≤ n) × (n < k)
Within (Left at l) n m k = (l.place < m) × (at < n) × (n ≤ k)

abbrev pub AllWithin : Result Plan Refusal → ℕ → ℕ → ℕ → Type 0
AllWithin (Ok p) n m k = Within p.change n m k
AllWithin (Err r) n m k = ⊤

-- A plan, or a refusal, that does on a table of records, places and a count n what a call is to do: it answers o, and leaves the count n',
-- the records rs' and the places ps'.
pub record Does (z : Result Plan Refusal) (rs : List Record) (ps : List ℕ) (n : ℕ) (o : Outcome) (n' : ℕ) (rs' : List Record) (ps' : List ℕ) : Type 0 where
  pub within : AllWithin z n (length rs) (length ps)
  pub says : said (answer_of z) ≡ o
  pub counts : count_of z n ≡ n'
  pub records : records_of z rs ≡ rs'
  pub places : places_of z n ps ≡ ps'

-- The plan of each call on a table, or its refusal.
abbrev pub IsClearing : Table → Result Plan Refusal → Type 0
IsClearing t z =
    Does z t.records.now t.places.now t.count (clear_outcome t.records.now t.places.now) (clear_count t.records.now t.places.now t.count) (clear_records t.records.now t.places.now) t.places.now

abbrev pub IsRemoval : Table → ℕ → Result Plan Refusal → Type 0
IsRemoval t a z =
    Does z t.records.now t.places.now t.count (remove_outcome t.records.now t.places.now t.count a) (remove_count t.records.now t.places.now t.count a) (remove_records t.records.now t.places.now t.count a)
    (remove_places t.records.now t.places.now t.count a)

abbrev pub IsAddition : Table → Sighting → Result Plan Refusal → Type 0
IsAddition t s z =
    Does z t.records.now t.places.now t.count (add_outcome t.records.now t.places.now t.count s) (add_count t.records.now t.places.now t.count s) (add_records t.records.now t.places.now t.count s)
    (add_places t.records.now t.places.now t.count s)
