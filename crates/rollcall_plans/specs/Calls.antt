-- The calls on the roll-call table (document 02, Points 4 and 12): what each answers, and the count, the records and the places after it.
--
-- A call that is refused changes nothing. The place of a new record is the lowest one that is free; past the count the places
-- stay as the moves of the list leave them.
use Rattle.std.specs.Prelude.{ℕ, zero, suc, ◌+◌, ◌-◌, Bool, not, cond, ◌||◌, List, [], ◌∷◌, pos, negsuc, length, set, Some, None, Result}
use Rattle.outcome.specs.Outcomes.{Outcome, done, unless, said_by}
use Rattle.outcome.specs.Outcomes.Outcome.{refusal, answer}
use Rattle.outcome.specs.declared.Refusal.{Refusal}
use Rattle.outcome.specs.Refusals.{word_too_large, table_unsound, table_full}
use Rattle.message.specs.Message.{is_word}
use Rattle.rollcall_table.specs.declared.Record.{Record}
use Rattle.rollcall_table.specs.declared.Sighting.{Sighting}
use Rattle.rollcall_table.specs.Standing.{grade_number, record_beats}
use Rattle.rollcall_plans.specs.declared.Rolled.{Rolled}
use Rattle.rollcall_plans.specs.declared.Rolled.TheVariants as R
use Rattle.rollcall_table.specs.Table.{Altitude, one, record_at, right_lengths, is_sound, holder, free_place, is_in, has_room, position, unmarked, unmarked_all, record_of}

-- ---- what an answer says

-- An altitude as an answer's values: whether it is known; where it is, 1 where it is below zero and else 0, and the number
-- without its sign.
abbrev pub altitude_values : Altitude → List ℕ
altitude_values (Some (pos n)) = 1 ∷ 0 ∷ n ∷ []
altitude_values (Some (negsuc n)) = 1 ∷ 1 ∷ suc n ∷ []
altitude_values None = 0 ∷ []

-- The answer that a record was found: whether it is live, its address, its time, its grade and its altitude.
abbrev pub found : Record → Outcome
found r = answer 4 (one r.live ∷ r.address ∷ r.time ∷ grade_number r.grade ∷ altitude_values r.altitude)

abbrev pub added : Outcome
added = answer 1 []

abbrev pub renewed : Outcome
renewed = answer 2 []

abbrev pub absent : Outcome
absent = answer 5 []

-- The record held remains.
abbrev pub held : Outcome
held = answer 6 []

-- What a Rolled says. Points 4 and 12 number no answers; these are in the order of the enum.
abbrev pub told : Rolled → Outcome
told R.Cleared = done
told R.Added = added
told R.Renewed = renewed
told R.Removed = answer 3 []
told (R.Found r) = found r
told R.Absent = absent
told R.Held = held

-- What the answer of a reply says.
abbrev pub said : Result Rolled Refusal → Outcome
said = said_by told

-- ---- parts of the definitions

-- Rows 3 and 8, the checks of every call but clear.
abbrev pub checked : List Record → List ℕ → ℕ → ℕ → Outcome → Outcome
checked rs ps n a o = unless (is_word a) word_too_large (unless (is_sound rs ps n) table_unsound o)

-- What stands after a call that answers o: what stood before it where it is refused.
abbrev pub kept : {X : Type 0} → Outcome → X → X → X
kept (refusal n) before after = before
kept (answer n vs) before after = after

-- The first m entries move up by one, and v stands before them; the last of them is written over.
unfoldable pub push : ℕ → ℕ → List ℕ → List ℕ
push zero v ps = ps
push (suc m) v [] = []
push (suc m) v (p ∷ ps) = v ∷ push m p ps

-- The first m entries take what stands after each.
unfoldable pub pull : ℕ → List ℕ → List ℕ
pull zero ps = ps
pull (suc m) [] = []
pull (suc m) (p ∷ []) = p ∷ []
pull (suc m) (p ∷ q ∷ ps) = q ∷ pull m (q ∷ ps)

-- The same from place k on.
unfoldable pub opened : ℕ → ℕ → ℕ → List ℕ → List ℕ
opened zero m v ps = push m v ps
opened (suc k) m v [] = []
opened (suc k) m v (p ∷ ps) = p ∷ opened k m v ps

unfoldable pub closed : ℕ → ℕ → List ℕ → List ℕ
closed zero m ps = pull m ps
closed (suc k) m [] = []
closed (suc k) m (p ∷ ps) = p ∷ closed k m ps

-- ---- clear

unfoldable pub clear_outcome : List Record → List ℕ → Outcome
clear_outcome rs ps = unless (right_lengths (length rs) (length ps)) table_unsound done

unfoldable pub clear_count : List Record → List ℕ → ℕ → ℕ
clear_count rs ps n = kept (clear_outcome rs ps) n 0

-- 'clear unsets only live marks'; the places stay as they are.
unfoldable pub clear_records : List Record → List ℕ → List Record
clear_records rs ps = kept (clear_outcome rs ps) rs (unmarked_all rs)

-- ---- find

-- 'Find gives the live record of the address', or 'absent'.
unfoldable pub find_outcome : List Record → List ℕ → ℕ → ℕ → Outcome
find_outcome rs ps n a =
    checked rs ps n a
    (cond (is_in rs a) (found (record_at rs (holder rs a))) absent)

-- ---- remove

unfoldable pub remove_outcome : List Record → List ℕ → ℕ → ℕ → Outcome
remove_outcome rs ps n a = checked rs ps n a (cond (is_in rs a) (answer 3 []) absent)

unfoldable pub remove_count : List Record → List ℕ → ℕ → ℕ → ℕ
remove_count rs ps n a = kept (remove_outcome rs ps n a) n (cond (is_in rs a) (n - 1) n)

unfoldable pub remove_records : List Record → List ℕ → ℕ → ℕ → List Record
remove_records rs ps n a =
    kept (remove_outcome rs ps n a) rs (cond (is_in rs a) (set rs (holder rs a) (unmarked (record_at rs (holder rs a)))) rs)

-- The places after the address's move down by one; the last one by the count stays, past the new count.
unfoldable pub remove_places : List Record → List ℕ → ℕ → ℕ → List ℕ
remove_places rs ps n a =
    kept (remove_outcome rs ps n a) ps (cond (is_in rs a) (closed (position rs ps n a) (n - 1 - position rs ps n a) ps) ps)

-- ---- add or renew

-- 'says whether the new reply stands': what is answered where an address is live or not, room is left or not, and the reply
-- stands or not. Row 9 is last: 'the address is new and every place is live'.
abbrev pub add_answer : Bool → Bool → Bool → Outcome
add_answer live room stands = unless (live || room) table_full (cond live (cond stands renewed held) added)

-- The reply stands: the address is new, or the reply beats the record held.
abbrev pub stands : List Record → Sighting → Bool
stands rs s = not (is_in rs s.address) || record_beats (record_of s) (record_at rs (holder rs s.address))

unfoldable pub add_outcome : List Record → List ℕ → ℕ → Sighting → Outcome
add_outcome rs ps n s = checked rs ps n s.address (add_answer (is_in rs s.address) (has_room rs) (stands rs s))

unfoldable pub add_count : List Record → List ℕ → ℕ → Sighting → ℕ
add_count rs ps n s = kept (add_outcome rs ps n s) n (cond (is_in rs s.address) n (n + 1))

-- Where the reply stands, a live address has its record replaced, and a new one gets the lowest free place; 'otherwise the
-- record held remains'.
unfoldable pub add_records : List Record → List ℕ → ℕ → Sighting → List Record
add_records rs ps n s =
    kept (add_outcome rs ps n s) rs
    (cond (stands rs s) (set rs (cond (is_in rs s.address) (holder rs s.address) (free_place rs)) (record_of s)) rs)

-- The places of higher addresses move up by one.
unfoldable pub add_places : List Record → List ℕ → ℕ → Sighting → List ℕ
add_places rs ps n s =
    kept (add_outcome rs ps n s) ps
    (cond (is_in rs s.address) ps (opened (position rs ps n s.address) (n + 1 - position rs ps n s.address) (free_place rs) ps))
