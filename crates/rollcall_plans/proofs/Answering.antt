-- What a plan does is what its call is to do: a case for each of the tests, and in each both sides compute.
use mathlib.Core.Path.{◌≡◌, refl, sym, ap, ◌∙◌, subst}
use mathlib.Core.Bool.{Bool, true, false, not, cond, ◌||◌}
use mathlib.Core.List.{List, []}
use Prim.Native.Nat.{ℕ, ◌+◌, ◌-◌, ◌≤◌, ◌<◌}
use native.Mathlib.Omega.{arith}
use lib.Dec.{ltb}
use lib.ListN.{length, set}
use borrow.Author.Tests.{ltb-true, lt-ltb}
use Rattle.std.specs.Prelude.{position, Some, None, Result, Ok}
use Rattle.outcome.specs.declared.Refusal.{Refusal}
use Rattle.outcome.specs.Outcomes.{Outcome, done, unless}
use Rattle.outcome.specs.Outcomes.Outcome.{refusal, answer}
use Rattle.outcome.proofs.Laws.{both, refused_at}
use Rattle.message.specs.Message.{is_word}
use Rattle.rollcall_table.specs.declared.Record.{Record}
use Rattle.rollcall_table.specs.declared.Sighting.{Sighting}
use Rattle.rollcall_table.specs.Table.{largest, right_lengths, unmarked_all, record_at, place_at, is_sound, holds, holder, free_place, is_in, has_room, unmarked, record_of, position as position_of}
use Rattle.rollcall_table.specs.Standing.{record_beats}
use Rattle.rollcall_table.specs.Checks.{raised_of}
use Rattle.rollcall_table.proofs.Laws.{below-count, parts, free_fewer, free_position, in-there}
use Rattle.rollcall_plans.specs.declared.Spot.{Spot}
use Rattle.rollcall_plans.specs.declared.Plan.{Plan}
use Rattle.rollcall_plans.specs.declared.Rolled.TheVariants.{Renewed, Held}
use Rattle.rollcall_plans.specs.declared.Change.TheVariants.{Replaced}
use Rattle.rollcall_plans.specs.Calls.{told, found, renewed, absent, held, checked, kept, add_answer, opened, closed, clear_outcome, clear_count, clear_records, find_outcome, remove_outcome, remove_count, remove_records, remove_places, add_outcome, add_count, add_records, add_places}
use Rattle.rollcall_plans.specs.Plans.{placed_at, spot_of, found_by, idle_of, removal_of, addition_of, Does}
use Rattle.rollcall_plans.proofs.Spots.{checked_is}

-- ---- find

pub found-answer : (rs : List Record) (ps : List ℕ) (n a : ℕ) (s : Spot) → is_word a ≡ true → is_sound rs ps n ≡ true → s ≡ spot_of rs ps n a → told (found_by s.held) ≡ find_outcome rs ps n a
unfolding spot_of find_outcome
found-answer rs ps n a s w t e = ap (λ (s : Spot). told (found_by s.held)) e ∙ by (is_in rs a) ∙ sym (checked_is rs ps n a _ w t)
  where
    by : (i : Bool) → told (found_by (cond i (Some (placed_at rs (holder rs a))) None)) ≡ cond i (found (record_at rs (holder rs a))) absent
    by true = refl
    by false = refl

-- what find needs
pub ruleset finding = (refused_at, found-answer)

-- ---- a call that passed the rows 3 and 8

passed : (rs rs' : List Record) (ps ps' : List ℕ) (n n' : ℕ) (z : Result Plan Refusal) (a : ℕ) (o : Outcome) → is_word a ≡ true → is_sound rs ps n ≡ true
    → Does z rs ps n o (kept o n n') (kept o rs rs') (kept o ps ps')
    → Does z rs ps n (checked rs ps n a o) (kept (checked rs ps n a o) n n') (kept (checked rs ps n a o) rs rs') (kept (checked rs ps n a o) ps ps')
passed rs rs' ps ps' n n' z a o w t d = subst (λ (o : Outcome). Does z rs ps n o (kept o n n') (kept o rs rs') (kept o ps ps')) (sym (checked_is rs ps n a o w t)) d

-- the position lies within the list of a sound table
pub position-le : (rs : List Record) (ps : List ℕ) (n a : ℕ) → is_sound rs ps n ≡ true → (position_of rs ps n a ≤ n) × (n ≤ length ps)
position-le rs ps n a e = let p = parts rs ps n e in (below-count rs a n ps, subst (λ (k : ℕ). n ≤ k) p.same p.counted)

-- an address that is live has its place and its position within
held_within : (rs : List Record) (ps : List ℕ) (n a : ℕ) → is_sound rs ps n ≡ true → is_in rs a ≡ true → (holder rs a < length rs) × (position_of rs ps n a < n)
held_within rs ps n a e i =
    let there = both (ltb (position_of rs ps n a) n) (holds (record_at rs (place_at ps (position_of rs ps n a))) a) (in-there rs ps n a (parts rs ps n e) i).0 in
    (ltb-true (holder rs a) (length rs) i, ltb-true (position_of rs ps n a) n there.0)

-- ---- remove

-- the first part of the conclusion says nothing: it shows `grind` the spot to take the law at
pub removes : (rs : List Record) (ps : List ℕ) (n a : ℕ) → is_word a ≡ true → is_sound rs ps n ≡ true
    → (spot_of rs ps n a ≡ spot_of rs ps n a)
    × Does (Ok (removal_of (spot_of rs ps n a).at (spot_of rs ps n a).held n)) rs ps n (remove_outcome rs ps n a) (remove_count rs ps n a) (remove_records rs ps n a) (remove_places rs ps n a)
unfolding spot_of remove_outcome remove_count remove_records remove_places
removes rs ps n a w t = (refl, passed rs _ ps _ n _ _ a _ w t (by (is_in rs a) refl))
  where
    k : ℕ
    k = position_of rs ps n a

    h : ℕ
    h = holder rs a

    by : (i : Bool) → is_in rs a ≡ i
        → Does (Ok (removal_of k (cond i (Some (placed_at rs h)) None) n)) rs ps n (cond i (answer 3 []) absent)
        (kept (cond i (answer 3 []) absent) n (cond i (n - 1) n)) (kept (cond i (answer 3 []) absent) rs (cond i (set rs h (unmarked (record_at rs h))) rs)) (kept (cond i (answer 3 []) absent) ps (cond i (closed k (n - 1 - k) ps) ps))
    by true x =
        let l = held_within rs ps n a t x in
        record { within = (l.0, l.1, (position-le rs ps n a t).1); says = refl; counts = refl; records = refl; places = refl }
    by false x = record { within = tt; says = refl; counts = refl; records = refl; places = refl }

-- ---- add or renew

-- the answer by the tests: w of the word, t of the table, i of the address, g of the room, b of the record held
abbrev pub add_by : Bool → Bool → Bool → Bool → Bool → Outcome
add_by w t i g b = unless w 3 (unless t 8 (add_answer i g (not i || b)))

-- a live address: the reply beats the record held, or that one remains
renewal : (rs : List Record) (ps : List ℕ) (n h : ℕ) (r : Record) (b : Bool) → h < length rs
    → Does (Ok (cond b (record { answer = Renewed; count = n; change = Replaced (record { place = h; entry = r }) }) (idle_of Held n))) rs ps n (cond b renewed held)
    (kept (cond b renewed held) n n) (kept (cond b renewed held) rs (cond b (set rs h r) rs)) (kept (cond b renewed held) ps ps)
renewal rs ps n h r true l = record { within = l; says = refl; counts = refl; records = refl; places = refl }
renewal rs ps n h r false l = record { within = tt; says = refl; counts = refl; records = refl; places = refl }

-- what a sound table with a free place gives
record Room (rs : List Record) (ps : List ℕ) (n f : ℕ) : Type 0 where
  pub raised : raised_of n ≡ n + 1
  pub free : f < length rs
  pub small : f < 65536
  pub fits : n < length ps

room_of : (rs : List Record) (ps : List ℕ) (n : ℕ) → is_sound rs ps n ≡ true → has_room rs ≡ true → Room rs ps n (free_place rs)
room_of rs ps n e g =
    let p = parts rs ps n e in
    let h : free_place rs < length rs = ltb-true (free_place rs) (length rs) g in
    let fewer : n < length rs = subst (λ (k : ℕ). k < length rs) p.live (free_fewer rs h) in
    let few : length rs ≤ largest = p.few in
    let below : n < largest = omega arith in
    record { raised = ap (λ (t : Bool). cond t (n + 1) n) (lt-ltb n largest below); free = h; small = omega arith; fits = subst (λ (k : ℕ). n < k) p.same fewer }

pub adds : (rs : List Record) (ps : List ℕ) (n : ℕ) (s : Sighting) → is_word s.address ≡ true → is_sound rs ps n ≡ true
    → (spot_of rs ps n s.address ≡ spot_of rs ps n s.address)
    × Does (addition_of (spot_of rs ps n s.address).at (spot_of rs ps n s.address).held (position (λ r. not r.live) rs) n (record_of s)) rs ps n (add_outcome rs ps n s) (add_count rs ps n s) (add_records rs ps n s)
    (add_places rs ps n s)
unfolding spot_of add_outcome add_count add_records add_places
adds rs ps n s w u = (refl, rw free_position (passed rs _ ps _ n _ _ s.address _ w u (by (is_in rs s.address) refl (has_room rs) refl)))
  where
    k : ℕ
    k = position_of rs ps n s.address

    h : ℕ
    h = holder rs s.address

    f : ℕ
    f = free_place rs

    r : Record
    r = record_of s

    b : Bool
    b = record_beats (record_of s) (record_at rs (holder rs s.address))

    by : (i : Bool) → is_in rs s.address ≡ i → (g : Bool) → has_room rs ≡ g
        → Does (addition_of k (cond i (Some (placed_at rs h)) None) (cond g (Some f) None) n r) rs ps n (add_answer i g (not i || b))
        (kept (add_answer i g (not i || b)) n (cond i n (n + 1))) (kept (add_answer i g (not i || b)) rs (cond (not i || b) (set rs (cond i h f) r) rs))
        (kept (add_answer i g (not i || b)) ps (cond i ps (opened k (n + 1 - k) f ps)))
    by true x g y = renewal rs ps n h r b (held_within rs ps n s.address u x).0
    by false x true y =
        let g = room_of rs ps n u y in
        record { within = (g.free, g.small, (position-le rs ps n s.address u).0, g.fits); says = refl; counts = g.raised; records = refl; places = refl }
    by false x false y = record { within = tt; says = refl; counts = refl; records = refl; places = refl }

-- ---- clear

-- of a table of right lengths it leaves no live record, and of another all as it was
pub clear_done : (rs : List Record) (ps : List ℕ) (n : ℕ) → right_lengths (length rs) (length ps) ≡ true
    → (clear_outcome rs ps ≡ done) × ((clear_count rs ps n ≡ 0) × (clear_records rs ps ≡ unmarked_all rs))
unfolding clear_outcome clear_count clear_records
clear_done rs ps n e = (
  ap (λ (t : Bool). unless t 8 done) e,
  (ap (λ (t : Bool). kept (unless t 8 done) n 0) e, ap (λ (t : Bool). kept (unless t 8 done) rs (unmarked_all rs)) e),
)

pub clear_refused : (rs : List Record) (ps : List ℕ) (n : ℕ) → right_lengths (length rs) (length ps) ≡ false
    → (clear_outcome rs ps ≡ refusal 8) × ((clear_count rs ps n ≡ n) × (clear_records rs ps ≡ rs))
unfolding clear_outcome clear_count clear_records
clear_refused rs ps n e = (
  ap (λ (t : Bool). unless t 8 done) e,
  (ap (λ (t : Bool). kept (unless t 8 done) n 0) e, ap (λ (t : Bool). kept (unless t 8 done) rs (unmarked_all rs)) e),
)
