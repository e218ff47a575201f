-- The roll-call table (document 02, Points 4, 12 and 14): the records, one per aircraft; the places that list the live ones; their count.
--
-- A place is a record's number, from 0. Whether a table is sound is a relation, `Sound`, in the words of Point 4, and a test,
-- `is_sound`, which the code makes; that the two agree is a theorem.
use Rattle.std.specs.Prelude.{ℕ, suc, ◌+◌, ◌<◌, ◌≤◌, ◌≡◌, Bool, true, false, cond, ◌&&◌, List, [], ◌∷◌, ℤ, Option, None, leb, ltb, eqb, length, get_or, take}
use Rattle.message.specs.Message.{is_word}
use Rattle.rollcall_table.specs.declared.Record.{Record}
use Rattle.rollcall_table.specs.declared.Sighting.{Sighting}
use Rattle.rollcall_table.specs.declared.Grade.TheVariants.{Clean}

-- 'Make 384 the largest table length' (Point 14; it was 1000).
abbrev pub largest : ℕ
largest = 384

-- An altitude in feet, or that there is none.
abbrev pub Altitude : Type 0
Altitude = Option ℤ

-- What stands where there is no record.
abbrev pub blank : Record
blank = record { live = false; address = 0; altitude = None; time = 0; grade = Clean }

abbrev pub record_at : List Record → ℕ → Record
record_at rs i = get_or rs i blank

abbrev pub place_at : List ℕ → ℕ → ℕ
place_at ps k = get_or ps k 0

-- The address of the record at a place.
abbrev pub address_at : List Record → ℕ → ℕ
address_at rs p = (record_at rs p).address

-- 'the two lengths differ or lie outside 1 to' the largest
abbrev pub right_lengths : ℕ → ℕ → Bool
right_lengths m k = eqb m k && (leb 1 m && leb m largest)

-- ---- a sound table, in the words of Point 4

-- A table is sound: the lengths are right, the count is not above them, no live address is above FFFFFF, and 'the first
-- places by the count name exactly the live records by strictly ascending address': a place among them names a live record,
-- a live record is named, and named once.
pub record Sound (rs : List Record) (ps : List ℕ) (n : ℕ) : Type 0 where
  pub same : length rs ≡ length ps
  pub some : 1 ≤ length rs
  pub few : length rs ≤ largest
  pub counted : n ≤ length rs
  pub narrow : (i : ℕ) → (record_at rs i).live ≡ true → address_at rs i ≤ 0xFFFFFF
  pub inside : (k : ℕ) → k < n → place_at ps k < length rs
  pub alive : (k : ℕ) → k < n → (record_at rs (place_at ps k)).live ≡ true
  pub listed : (i : ℕ) → (record_at rs i).live ≡ true → (k : ℕ) × ((k < n) × (place_at ps k ≡ i))
  pub once : (j k : ℕ) → j < n → k < n → place_at ps j ≡ place_at ps k → j ≡ k
  pub ascending : (j k : ℕ) → j < k → k < n → address_at rs (place_at ps j) < address_at rs (place_at ps k)

-- ---- the test that the code makes

abbrev pub one : Bool → ℕ
one true = 1
one false = 0

-- How many are live.
unfoldable pub live_in : List Record → ℕ
live_in [] = 0
live_in (r ∷ rs) = one r.live + live_in rs

-- A record that may be listed next: live, of an address that is not below the least one and has 24 bits.
abbrev pub is_next : ℕ → Record → Bool
is_next least r = r.live && (leb least r.address && is_word r.address)

-- Some places name live records by strictly ascending address, from the least one on.
unfoldable pub in_order : List Record → ℕ → List ℕ → Bool
in_order rs least [] = true
in_order rs least (p ∷ ps) = is_next least (record_at rs p) && in_order rs (suc (address_at rs p)) ps

-- As many are live as the count says, and the first places by the count are in order: so they name every live record.
unfoldable pub is_sound : List Record → List ℕ → ℕ → Bool
is_sound rs ps n =
    right_lengths (length rs) (length ps) && (leb n (length rs) && (eqb (live_in rs) n && in_order rs 0 (take n ps)))

-- ---- whose record it is

-- The record is live and of the address.
abbrev pub holds : Record → ℕ → Bool
holds r a = r.live && eqb r.address a

-- The place of the live record of an address; the length where there is none.
unfoldable pub holder : List Record → ℕ → ℕ
holder [] a = 0
holder (r ∷ rs) a = cond (holds r a) 0 (suc (holder rs a))

-- The lowest place without a live record; the length where there is none.
unfoldable pub free_place : List Record → ℕ
free_place [] = 0
free_place (r ∷ rs) = cond r.live (suc (free_place rs)) 0

-- How many of some places, from the first on, name an address below a: where a stands in the list, or is to stand.
unfoldable pub below : List Record → ℕ → List ℕ → ℕ
below rs a [] = 0
below rs a (p ∷ ps) = cond (ltb (address_at rs p) a) (suc (below rs a ps)) 0

-- The live record of the address is there.
abbrev pub is_in : List Record → ℕ → Bool
is_in rs a = ltb (holder rs a) (length rs)

-- A place without a live record is there.
abbrev pub has_room : List Record → Bool
has_room rs = ltb (free_place rs) (length rs)

-- Where the address stands in the list, or is to stand.
abbrev pub position : List Record → List ℕ → ℕ → ℕ → ℕ
position rs ps n a = below rs a (take n ps)

-- ---- what becomes of a record

-- The record with its live mark unset, and nothing else.
abbrev pub unmarked : Record → Record
unmarked r = record { live = false; address = r.address; altitude = r.altitude; time = r.time; grade = r.grade }

abbrev pub unmarked_all : List Record → List Record
unmarked_all [] = []
unmarked_all (r ∷ rs) = unmarked r ∷ unmarked_all rs

-- The live record of a sighting.
abbrev pub record_of : Sighting → Record
record_of s = record { live = true; address = s.address; altitude = s.altitude; time = s.time; grade = s.grade }
