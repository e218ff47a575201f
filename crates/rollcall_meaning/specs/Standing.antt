-- Which reply stands (document 02, Point 12): 'beats' as an order, and the record that a list of calls leaves, as a statement
-- about the list.
use Rattle.std.specs.Prelude.{ℕ, ◌<◌, ◌≤◌, ◌≡◌, Bool, true, false, not, cond, ◌&&◌, List, [], ◌∷◌, ◌++◌, ◌↔◌, ◌⊎◌, eqb}
use Rattle.std.proofs.Math.Option.{some}
use Rattle.std.proofs.Math.ListN.{get_elem?}
use Rattle.outcome.specs.Outcomes.{Outcome}
use Rattle.outcome.specs.Outcomes.Outcome.{refusal, answer}
use Rattle.rollcall_table.specs.declared.Grade.{Grade}
use Rattle.rollcall_table.specs.declared.Grade.TheVariants.{Clean, Sole, Several}
use Rattle.rollcall_table.specs.declared.Sighting.{Sighting}
use Rattle.rollcall_table.specs.Table.{record_of}
use Rattle.rollcall_table.specs.Standing.{beats}
use Rattle.rollcall_plans.specs.Calls.{found, absent}
use Rattle.rollcall_meaning.specs.Maps.{Call, Table, outcome, after}
use Rattle.rollcall_meaning.specs.Maps.Call.{clear, add, remove, find}
use Rattle.rollcall_meaning.specs.Keeping.{RightLengths}

-- ---- 'beats'

-- A reply beats another.
abbrev pub Beats : Sighting → Sighting → Type 0
Beats s q = beats s.time s.grade q.time q.grade ≡ true

-- 'clean beats sole and several, and sole beats several'
pub data Better : Grade → Grade → Type 0 where
  clean_sole : Better Clean Sole
  clean_several : Better Clean Several
  sole_several : Better Sole Several

-- 'A later time beats an earlier one. At equal times' the better grade does; and nothing else beats.
unfoldable pub BeatsBy : Type 0
BeatsBy = (s q : Sighting) → Beats s q ↔ ((q.time < s.time) ⊎ ((s.time ≡ q.time) × Better s.grade q.grade))

-- It is irreflexive, transitive, and of two replies that differ in time or grade one beats the other.
unfoldable pub BeatsOrders : Type 0
BeatsOrders =
    ((s : Sighting) → Beats s s → ⊥)
    × (((s q p : Sighting) → Beats s q → Beats q p → Beats s p)
    × ((s q : Sighting) → (((s.time ≡ q.time) × (s.grade ≡ q.grade)) → ⊥) → Beats s q ⊎ Beats q s))

-- ---- the reply that stands in a list

-- Something in the list beats the reply. (`get_elem? l i` is the entry i of a list, from 0.)
abbrev pub Beaten : List Sighting → Sighting → Type 0
Beaten l q = (i : ℕ) × ((p : Sighting) × ((get_elem? l i ≡ some p) × Beats p q))

-- 'the earliest in the list among those that nothing in the list beats': nothing in the list beats it, and each one before it
-- is beaten by something in the list.
pub record Stands (l : List Sighting) (s : Sighting) : Type 0 where
  pub position : ℕ
  pub there : get_elem? l position ≡ some s
  pub unbeaten : Beaten l s → ⊥
  pub earliest : (i : ℕ) (q : Sighting) → i < position → get_elem? l i ≡ some q → Beaten l q

-- There is no other.
unfoldable pub OneStands : Type 0
OneStands = (l : List Sighting) (s q : Sighting) → Stands l s → Stands l q → s ≡ q

-- ---- lists of calls

-- What some calls leave, one after the other.
unfoldable pub after_all : List Call → Table → Table
after_all [] t = t
after_all (c ∷ cs) t = after_all cs (after c t)

-- A call that adds or renews for each of some replies; and all of them are about one address.
unfoldable pub adds : List Sighting → List Call
adds [] = []
adds (s ∷ l) = add s ∷ adds l

unfoldable pub all_about : ℕ → List Sighting → Bool
all_about a [] = true
all_about a (s ∷ l) = eqb s.address a && all_about a l

-- 'For every list of one or more such calls about one address up to FFFFFF from a cleared table, with no removal, the record is
-- the earliest in the list among those that nothing in the list beats.'
unfoldable pub EarliestUnbeatenStands : Type 0
EarliestUnbeatenStands =
    (t : Table) (a : ℕ) (s : Sighting) (l : List Sighting) → RightLengths t → a ≤ 0xFFFFFF → all_about a (s ∷ l) ≡ true
    → (q : Sighting) × (Stands (s ∷ l) q × (outcome (find a) (after_all (adds (s ∷ l)) (after clear t)) ≡ found (record_of q)))

-- ---- with any other calls in between

-- The calls neither clear the table nor remove the address.
unfoldable pub none_takes_out : ℕ → List Call → Bool
none_takes_out a [] = true
none_takes_out a (clear ∷ cs) = false
none_takes_out a (add s ∷ cs) = none_takes_out a cs
none_takes_out a (remove b ∷ cs) = not (eqb b a) && none_takes_out a cs
none_takes_out a (find b ∷ cs) = none_takes_out a cs

-- The reply of a call about an address, unless the call is refused: row 9 refuses a new address while the table is full.
abbrev pub reply_about : ℕ → Call → Outcome → List Sighting
reply_about a (add s) (answer n vs) = cond (eqb s.address a) (s ∷ []) []
reply_about a (add s) (refusal n) = []
reply_about a clear o = []
reply_about a (remove b) o = []
reply_about a (find b) o = []

-- Those of some calls.
unfoldable pub replies_about : ℕ → List Call → Table → List Sighting
replies_about a [] t = []
replies_about a (c ∷ cs) t = reply_about a c (outcome c t) ++ replies_about a cs (after c t)

-- What find is to answer after some replies about an address.
abbrev pub Found : List Sighting → Outcome → Type 0
Found [] o = o ≡ absent
Found (s ∷ l) o = (q : Sighting) × (Stands (s ∷ l) q × (o ≡ found (record_of q)))

-- For every list of calls from a cleared table, about any addresses, refused ones among them, of which none takes the address
-- out: the record is the one that stands among the replies about it.
unfoldable pub StandsAmongOthers : Type 0
StandsAmongOthers =
    (t : Table) (a : ℕ) (cs : List Call) → RightLengths t → a ≤ 0xFFFFFF → none_takes_out a cs ≡ true
    → Found (replies_about a cs (after clear t)) (outcome (find a) (after_all cs (after clear t)))
