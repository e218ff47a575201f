-- The table as a map from addresses to altitude, time and grade, and a plain map to compare it with (document 02, Points 4
-- and 12).
use Rattle.std.specs.Prelude.{ℕ, Bool, true, false, cond, List, [], ◌∷◌, eqb, ltb, length}
use Rattle.std.proofs.Math.Option.{Option, none, some}
use Rattle.outcome.specs.Outcomes.{Outcome, done, unless}
use Rattle.outcome.specs.Outcomes.Outcome.{answer}
use Rattle.outcome.specs.Refusals.{word_too_large}
use Rattle.message.specs.Message.{is_word}
use Rattle.rollcall_table.specs.declared.Record.{Record}
use Rattle.rollcall_table.specs.declared.Sighting.{Sighting}
use Rattle.rollcall_table.specs.declared.Grade.{Grade}
use Rattle.rollcall_table.specs.Table.{Altitude, holds, record_of}
use Rattle.rollcall_table.specs.Standing.{beats}
use Rattle.rollcall_plans.specs.Calls.{found, absent, kept, add_answer, clear_outcome, clear_count, clear_records, find_outcome, remove_outcome, remove_count, remove_records, remove_places, add_outcome, add_count, add_records, add_places}

-- ---- the table as a map

-- An altitude or that it is missing, a time, and a grade.
abbrev pub Value : Type 0
Value = Altitude × (ℕ × Grade)

abbrev pub value_of : Record → Value
value_of r = (r.altitude, (r.time, r.grade))

-- The value of the live record of an address, if there is one.
unfoldable pub map_of : List Record → ℕ → Option Value
map_of [] a = none
map_of (r ∷ rs) a = cond (holds r a) (some (value_of r)) (map_of rs a)

-- The live record of an address and its value.
abbrev pub record_for : ℕ → Value → Record
record_for a v = record { live = true; address = a; altitude = v.0; time = v.1.0; grade = v.1.1 }

-- What find says of an address, by its value.
abbrev pub told : ℕ → Option Value → Outcome
told a (some v) = found (record_for a v)
told a none = absent

-- Whether a reply stands over what a map has of its address: there is nothing, or the reply beats it.
abbrev pub stands_over : Value → Option Value → Bool
stands_over v none = true
stands_over v (some w) = beats v.1.0 v.1.1 w.1.0 w.1.1

-- ---- the calls

pub data Call : Type 0 where
  clear : Call
  add : Sighting → Call
  remove : ℕ → Call
  find : ℕ → Call

-- The records, the places and the count.
pub record Table : Type 0 where
  pub records : List Record
  pub places : List ℕ
  pub count : ℕ

-- What a call answers and leaves: the definitions that the contracts name.
unfoldable pub outcome : Call → Table → Outcome
outcome clear t = clear_outcome t.records t.places
outcome (add s) t = add_outcome t.records t.places t.count s
outcome (remove a) t = remove_outcome t.records t.places t.count a
outcome (find a) t = find_outcome t.records t.places t.count a

unfoldable pub after : Call → Table → Table
after clear t = record { records = clear_records t.records t.places; places = t.places; count = clear_count t.records t.places t.count }
after (add s) t = record {
  records = add_records t.records t.places t.count s;
  places = add_places t.records t.places t.count s;
  count = add_count t.records t.places t.count s;
}
after (remove a) t = record {
  records = remove_records t.records t.places t.count a;
  places = remove_places t.records t.places t.count a;
  count = remove_count t.records t.places t.count a;
}
after (find a) t = t

-- ---- a plain map with room for so many entries

abbrev pub Entries : Type 0
Entries = List (ℕ × Value)

unfoldable pub lookup : Entries → ℕ → Option Value
lookup [] a = none
lookup (e ∷ m) a = cond (eqb e.0 a) (some e.1) (lookup m a)

-- The entry of the address replaced, or a new one.
unfoldable pub put : ℕ → Value → Entries → Entries
put a v [] = (a, v) ∷ []
put a v (e ∷ m) = cond (eqb e.0 a) ((a, v) ∷ m) (e ∷ put a v m)

-- The entry of the address taken out.
unfoldable pub take_out : ℕ → Entries → Entries
take_out a [] = []
take_out a (e ∷ m) = cond (eqb e.0 a) m (e ∷ take_out a m)

abbrev pub is_some : {X : Type 0} → Option X → Bool
is_some (some x) = true
is_some none = false

-- What the calls answer and leave on a plain map with the room for r entries: an address above FFFFFF is refused by row 3, and
-- a new one by row 9 where no room is left. A reply that does not stand changes nothing.
unfoldable pub plain_outcome : ℕ → Call → Entries → Outcome
plain_outcome r clear m = done
plain_outcome r (add s) m =
    unless (is_word s.address) word_too_large
    (add_answer (is_some (lookup m s.address)) (ltb (length m) r) (stands_over (value_of (record_of s)) (lookup m s.address)))
plain_outcome r (remove a) m = unless (is_word a) word_too_large (cond (is_some (lookup m a)) (answer 3 []) absent)
plain_outcome r (find a) m = unless (is_word a) word_too_large (told a (lookup m a))

unfoldable pub plain_after : ℕ → Call → Entries → Entries
plain_after r clear m = []
plain_after r (add s) m =
    kept (plain_outcome r (add s) m) m
    (cond (stands_over (value_of (record_of s)) (lookup m s.address)) (put s.address (value_of (record_of s)) m) m)
plain_after r (remove a) m = kept (plain_outcome r (remove a) m) m (take_out a m)
plain_after r (find a) m = m
