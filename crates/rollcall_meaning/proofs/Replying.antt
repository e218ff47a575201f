-- Lists of calls and the reply that stands. The idea: what the map has of an address is the reply held so far; each call that
-- takes nothing out either is a reply about the address, or leaves what the map has of it.
use Prim.Native.Nat.{ℕ, ◌≤◌}
use mathlib.Core.Path.{◌≡◌, refl, sym, ap, ◌∙◌, subst}
use mathlib.Core.Bool.{Bool, true, false, not, cond, ◌&&◌}
use mathlib.Core.List.{List, [], ◌∷◌, ◌++◌}
use mathlib.Core.Logic.{◌⊎◌, inl, inr}
use mathlib.Core.Option.{Option, none, some}
use lib.Dec.{eqb}
use borrow.Author.Tests.{eqb-true, eq-eqb, not-true}
use Rattle.outcome.specs.Outcomes.{Outcome}
use Rattle.outcome.specs.Outcomes.Outcome.{refusal, answer}
use Rattle.outcome.proofs.Laws.{never, both, refusal_is_no_answer}
use Rattle.rollcall_table.specs.declared.Record.{Record}
use Rattle.rollcall_table.specs.declared.Sighting.{Sighting}
use Rattle.rollcall_table.specs.Standing.{beats, grade_number}
use Rattle.rollcall_table.specs.Table.{record_of, is_in, has_room}
use Rattle.rollcall_plans.specs.Calls.{altitude_values, found, add_answer, stands}
use Rattle.rollcall_meaning.specs.Maps.{Value, value_of, map_of, told, stands_over, is_some, Call, Table, outcome, after}
use Rattle.rollcall_meaning.specs.Maps.Call.{clear, add, remove, find}
use Rattle.rollcall_meaning.specs.Keeping.{SoundTable, RightLengths, KeepsSound, ClearMends, FindGives, AddPuts, ClearEmpties}
use Rattle.rollcall_meaning.specs.Standing.{after_all, adds, all_about, EarliestUnbeatenStands, none_takes_out, reply_about, replies_about, Found, StandsAmongOthers}
use Rattle.rollcall_meaning.proofs.Sounding.{keeps_sound, clear_mends}
use Rattle.rollcall_meaning.proofs.Mapping.{some_in}
use Rattle.rollcall_meaning.proofs.Changing.{find_gives, add_puts, clear_empties, add_passed, remove_spares}
use Rattle.rollcall_meaning.proofs.Refusing.{add_leaves}
use Rattle.rollcall_meaning.proofs.Plain.{swap}
use Rattle.rollcall_meaning.proofs.Running.{cleared-room}
use Rattle.rollcall_meaning.proofs.Standing.{later, held_after, held-stands}

-- ---- the reply held of an address, if there is one

-- what a map has of it
abbrev valued : Option Sighting → Option Value
valued none = none
valued (some s) = some (value_of (record_of s))

-- the reply held after one more, and after some more
abbrev next : Option Sighting → Sighting → Option Sighting
next none q = some q
next (some s) q = some (later s q)

abbrev nexts : Option Sighting → List Sighting → Option Sighting
nexts o [] = o
nexts o (q ∷ l) = nexts (next o q) l

nexts-held : (s : Sighting) (l : List Sighting) → nexts (some s) l ≡ some (held_after s l)
nexts-held s [] = refl
nexts-held s (q ∷ l) = nexts-held (later s q) l

-- it is of the address
abbrev About : ℕ → Option Sighting → Type 0
About a none = Unit {0}
About a (some s) = s.address ≡ a

about_next : (a : ℕ) (o : Option Sighting) (q : Sighting) → About a o → q.address ≡ a → About a (next o q)
about_next a none q x y = y
about_next a (some s) q x y = by (beats q.time q.grade s.time s.grade)
  where
    by : (c : Bool) → (cond c q s).address ≡ a
    by true = y
    by false = x

-- one reply put into a map that has the reply held
put_next : (o : Option Sighting) (q : Sighting) → cond (stands_over (value_of (record_of q)) (valued o) && true) (some (value_of (record_of q))) (valued o) ≡ valued (next o q)
put_next none q = refl
put_next (some s) q = by (beats q.time q.grade s.time s.grade)
  where
    by : (c : Bool) → cond (c && true) (some (value_of (record_of q))) (some (value_of (record_of s))) ≡ some (value_of (record_of (cond c q s)))
    by true = refl
    by false = refl

-- ---- a call, and some calls

-- the table has the reply held
record Has (a : ℕ) (t : Table) (o : Option Sighting) : Type 0 where
  is_sound_lem : SoundTable t
  maps : map_of t.records a ≡ valued o
  about : About a o

-- the reply held after a call that answers r
abbrev next_by : ℕ → Call → Outcome → Option Sighting → Option Sighting
next_by a c r o = nexts o (reply_about a c r)

kept_sound : (t : Table) (c : Call) → SoundTable t → SoundTable (after c t)
unfolding KeepsSound
kept_sound t c s = keeps_sound t c s

add-refused : (t : Table) (s : Sighting) (k : ℕ) → outcome (add s) t ≡ refusal k → (after (add s) t).records ≡ t.records
unfolding outcome after
add-refused t s k e = (add_leaves t.records t.places t.count s k e).0

no_other : (b : Bool) (x y : Option Value) → cond (b && false) x y ≡ y
no_other true x y = refl
no_other false x y = refl

has-add : (a : ℕ) (t : Table) (q : Sighting) (o : Option Sighting) (r : Outcome) → outcome (add q) t ≡ r → Has a t o → Has a (after (add q) t) (next_by a (add q) r o)
unfolding AddPuts
has-add a t q o (refusal n) e h = record {
  is_sound_lem = kept_sound t (add q) h.is_sound_lem;
  maps = ap (λ (rs : List Record). map_of rs a) (add-refused t q n e) ∙ h.maps;
  about = h.about;
}
has-add a t q o (answer n vs) e h = by (eqb q.address a) refl
  where
    put : map_of (after (add q) t).records a ≡ cond (stands_over (value_of (record_of q)) (map_of t.records q.address) && eqb a q.address) (some (value_of (record_of q))) (map_of t.records a)
    put = add_puts t q h.is_sound_lem (λ k f. refusal_is_no_answer (sym f ∙ e)) a

    by : (c : Bool) → eqb q.address a ≡ c → Has a (after (add q) t) (nexts o (cond c (q ∷ []) []))
    by true c =
        let s : q.address ≡ a = eqb-true q.address a c in record {
          is_sound_lem = kept_sound t (add q) h.is_sound_lem;
          maps = put ∙ ap (λ (x : ℕ). cond (stands_over (value_of (record_of q)) (map_of t.records x) && eqb a x) (some (value_of (record_of q))) (map_of t.records a)) s
              ∙ ap (λ (x : Bool). cond (stands_over (value_of (record_of q)) (map_of t.records a) && x) (some (value_of (record_of q))) (map_of t.records a)) (eq-eqb a a refl)
              ∙ ap (λ (x : Option Value). cond (stands_over (value_of (record_of q)) x && true) (some (value_of (record_of q))) x) h.maps ∙ put_next o q;
          about = about_next a o q h.about s;
        }
    by false c = record {
      is_sound_lem = kept_sound t (add q) h.is_sound_lem;
      maps = put ∙ ap (λ (x : Bool). cond (stands_over (value_of (record_of q)) (map_of t.records q.address) && x) (some (value_of (record_of q))) (map_of t.records a)) (swap a q.address ∙ c)
          ∙ no_other (stands_over (value_of (record_of q)) (map_of t.records q.address)) (some (value_of (record_of q))) (map_of t.records a) ∙ h.maps;
      about = h.about;
    }

nexts-append : (o : Option Sighting) (l m : List Sighting) → nexts (nexts o l) m ≡ nexts o (l ++ m)
nexts-append o [] m = refl
nexts-append o (q ∷ l) m = nexts-append (next o q) l m

has_all : (a : ℕ) (cs : List Call) (t : Table) (o : Option Sighting) → none_takes_out a cs ≡ true → Has a t o → Has a (after_all cs t) (nexts o (replies_about a cs t))
unfolding after_all replies_about none_takes_out after
has_all a [] t o n h = h
has_all a (clear ∷ cs) t o n h = absurd (never n refl)
has_all a (add q ∷ cs) t o n h =
    subst (Has a (after_all cs (after (add q) t))) (nexts-append o (reply_about a (add q) (outcome (add q) t)) (replies_about a cs (after (add q) t)))
    (has_all a cs (after (add q) t) (next_by a (add q) (outcome (add q) t) o) n (has-add a t q o (outcome (add q) t) refl h))
has_all a (remove b ∷ cs) t o n h =
    let p = both (not (eqb b a)) (none_takes_out a cs) n in
    has_all a cs (after (remove b) t) o p.1 (record {
      is_sound_lem = kept_sound t (remove b) h.is_sound_lem;
      maps = remove_spares t b a h.is_sound_lem (not-true (eqb b a) p.0) ∙ h.maps;
      about = h.about;
    })
has_all a (find b ∷ cs) t o n h = has_all a cs t o n h

-- ---- from a cleared table

has-cleared : (a : ℕ) (t : Table) → RightLengths t → Has a (after clear t) none
unfolding ClearMends ClearEmpties
has-cleared a t h = record { is_sound_lem = clear_mends t h; maps = clear_empties t h a; about = tt }

found_of_lem : (a : ℕ) (q : Sighting) → q.address ≡ a → told a (some (value_of (record_of q))) ≡ found (record_of q)
found_of_lem a q e = ap (λ (x : ℕ). answer 4 (1 ∷ x ∷ q.time ∷ grade_number q.grade ∷ altitude_values q.altitude)) (sym e)

found_all : (a : ℕ) (t : Table) (l : List Sighting) → a ≤ 0xFFFFFF → Has a t (nexts none l) → Found l (outcome (find a) t)
unfolding FindGives
found_all a t [] h has = find_gives t a has.is_sound_lem h ∙ ap (told a) has.maps
found_all a t (s ∷ l) h has =
    let held = subst (Has a t) (nexts-held s l) has in
    (held_after s l, (held-stands s l, find_gives t a has.is_sound_lem h ∙ ap (told a) held.maps ∙ found_of_lem a (held_after s l) held.about))

pub stands_among_others : StandsAmongOthers
unfolding StandsAmongOthers
stands_among_others t a cs r h n = found_all a (after_all cs (after clear t)) (replies_about a cs (after clear t)) h (has_all a cs (after clear t) none n (has-cleared a t r))

-- ---- calls about one address alone

none_out : (a : ℕ) (l : List Sighting) → none_takes_out a (adds l) ≡ true
unfolding none_takes_out adds
none_out a [] = refl
none_out a (s ∷ l) = none_out a l

-- a reply about an address that is live, or has room, is not refused
replied : (a : ℕ) (t : Table) (s : Sighting) → SoundTable t → a ≤ 0xFFFFFF → s.address ≡ a → (is_in t.records a ≡ true) ⊎ (has_room t.records ≡ true) → reply_about a (add s) (outcome (add s) t) ≡ s ∷ []
replied a t s sd h e c =
    ap (reply_about a (add s)) (add_passed t s sd (subst (λ (x : ℕ). x ≤ 0xFFFFFF) (sym e) h))
    ∙ by (is_in t.records s.address) (has_room t.records) (stands t.records s) (subst (λ (x : ℕ). (is_in t.records x ≡ true) ⊎ (has_room t.records ≡ true)) (sym e) c)
  where
    its : cond (eqb s.address a) (s ∷ []) [] ≡ s ∷ []
    its = ap (λ (b : Bool). cond b (s ∷ []) []) (eq-eqb s.address a e)

    by : (i g k : Bool) → (i ≡ true) ⊎ (g ≡ true) → reply_about a (add s) (add_answer i g k) ≡ s ∷ []
    by true g true c = its
    by true g false c = its
    by false true k c = its
    by false false k (inl x) = absurd (never x refl)
    by false false k (inr x) = absurd (never x refl)

-- after a reply the address is live
lives : (a : ℕ) (t : Table) (o : Option Sighting) (s : Sighting) → Has a t (next o s) → is_in t.records a ≡ true
lives a t none s h = sym (some_in t.records a) ∙ ap is_some h.maps
lives a t (some q) s h = sym (some_in t.records a) ∙ ap is_some h.maps

all_replied : (a : ℕ) (l : List Sighting) (t : Table) (o : Option Sighting) → a ≤ 0xFFFFFF → all_about a l ≡ true → Has a t o → (is_in t.records a ≡ true) ⊎ (has_room t.records ≡ true) → replies_about a (adds l) t ≡ l
unfolding adds all_about replies_about
all_replied a [] t o h n has c = refl
all_replied a (s ∷ l) t o h n has c =
    let p = both (eqb s.address a) (all_about a l) n in
    let one = replied a t s has.is_sound_lem h (eqb-true s.address a p.0) c in
    let held : Has a (after (add s) t) (next o s) = subst (λ (m : List Sighting). Has a (after (add s) t) (nexts o m)) one (has-add a t s o (outcome (add s) t) refl has) in
    ap (λ (m : List Sighting). m ++ replies_about a (adds l) (after (add s) t)) one
    ∙ ap (s ∷◌) (all_replied a l (after (add s) t) (next o s) h p.1 held (inl (lives a (after (add s) t) o s held)))

pub earliest_unbeaten_stands : EarliestUnbeatenStands
unfolding EarliestUnbeatenStands StandsAmongOthers
earliest_unbeaten_stands t a s l r h n =
    subst (λ (m : List Sighting). Found m (outcome (find a) (after_all (adds (s ∷ l)) (after clear t))))
    (all_replied a (s ∷ l) (after clear t) none h n (has-cleared a t r) (inr (cleared-room t r)))
    (stands_among_others t a (adds (s ∷ l)) r h (none_out a (s ∷ l)))
