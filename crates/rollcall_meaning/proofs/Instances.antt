-- Worked instances of document 02, Point 12: six replies about one address and a seventh after a removal, what each is
-- answered, and which stands.
use mathlib.Core.Path.{◌≡◌, refl}
use mathlib.Core.Bool.{true}
use mathlib.Core.List.{List, [], ◌∷◌}
use Prim.Native.Nat.{ℕ}
use lib.IntN.{pos}
use Rattle.std.specs.Prelude.{Some, None}
use lib.Dec.{lit≤}
use Rattle.message.specs.Message.{is_word}
use Rattle.rollcall_table.specs.declared.Grade.{Grade}
use Rattle.rollcall_table.specs.declared.Grade.TheVariants.{Clean, Sole, Several}
use Rattle.rollcall_table.specs.declared.Sighting.{Sighting}
use Rattle.rollcall_table.specs.Table.{Altitude, blank, record_of, is_sound, live_in, in_order, holder, free_place, below}
use Rattle.rollcall_table.specs.Standing.{beats}
use Rattle.rollcall_plans.specs.Calls.{found, added, renewed, held, push, pull, opened, closed, clear_outcome, clear_count, clear_records, find_outcome, remove_outcome, remove_count, remove_records, remove_places, add_outcome, add_count, add_records, add_places}
use Rattle.rollcall_meaning.specs.Maps.{Table, outcome, after}
use Rattle.rollcall_meaning.specs.Maps.Call.{clear, add, remove, find}
use Rattle.rollcall_meaning.specs.Keeping.{RightLengths}
use Rattle.rollcall_meaning.specs.Running.{answers}
use Rattle.rollcall_meaning.specs.Standing.{Stands, adds, all_about, after_all, EarliestUnbeatenStands}
use Rattle.rollcall_meaning.proofs.Replying.{earliest_unbeaten_stands}

abbrev two : Table
two = record { records = blank ∷ blank ∷ []; places = 0 ∷ 0 ∷ []; count = 0 }

abbrev reply : Altitude → ℕ → Grade → Sighting
reply z t g = record { address = 0x4840D6; altitude = z; time = t; grade = g }

abbrev feet : ℕ → Altitude
feet n = Some (pos n)

-- equal, worse, better, earlier, later
abbrev first : Sighting
first = reply (feet 38000) 1000 Sole

abbrev others : List Sighting
others = reply (feet 1) 1000 Sole ∷ reply (feet 2) 1000 Several ∷ reply (feet 3) 1000 Clean ∷ reply (feet 4) 999 Clean ∷ reply None 1001 Several ∷ []

pub each_is_answered : answers (adds (first ∷ others)) (after clear two) ≡ added ∷ held ∷ held ∷ renewed ∷ held ∷ renewed ∷ []
unfolding answers adds outcome after clear_outcome clear_count clear_records add_outcome add_count add_records add_places is_sound live_in in_order holder free_place below beats is_word push opened
each_is_answered = refl

-- the last one stands
pub last_is_found : outcome (find 0x4840D6) (after_all (adds (first ∷ others)) (after clear two)) ≡ found (record_of (reply None 1001 Several))
unfolding after_all adds outcome after clear_outcome clear_count clear_records find_outcome add_outcome add_count add_records add_places is_sound live_in in_order holder free_place below beats is_word push opened
last_is_found = refl

-- a removed address stands with an earlier time and a worse grade
pub removed_stands : outcome (add (reply (feet 5) 1 Several)) (after (remove 0x4840D6) (after_all (adds (first ∷ [])) (after clear two))) ≡ added
unfolding after_all adds outcome after clear_outcome clear_count clear_records remove_outcome remove_count remove_records remove_places add_outcome add_count add_records add_places is_sound live_in in_order holder free_place below beats is_word push pull opened closed
removed_stands = refl

-- the theorem meets its hypotheses
right : RightLengths two
right = (refl, (lit≤ tt, lit≤ tt))

all_about_lem : all_about 0x4840D6 (first ∷ others) ≡ true
unfolding all_about
all_about_lem = refl

pub one-stands_here : (q : Sighting) × Stands (first ∷ others) q
unfolding EarliestUnbeatenStands
one-stands_here = let e = earliest_unbeaten_stands two 0x4840D6 first others right (lit≤ tt) all_about_lem in (e.0, e.1.0)
