-- What each call gives and changes, of the map and of the records: a case for each of its tests.
use mathlib.Core.Path.{◌≡◌, refl, sym, ap, ◌∙◌, subst}
use mathlib.Core.Bool.{Bool, true, false, not, cond, ◌&&◌, ◌||◌}
use mathlib.Core.List.{List, [], ◌∷◌}
use mathlib.Core.Logic.{◌⊎◌, inl, inr}
use mathlib.Core.Option.{Option, none, some}
use Prim.Native.Nat.{ℕ, zero, suc, ◌≤◌, ◌<◌}
use native.Mathlib.Omega.{arith}
use lib.Dec.{eqb}
use lib.ListN.{length, set}
use lib.Seq.{get_or-set_same, get_or-set_other}
use borrow.Author.Tests.{eqb-true, eqb-false, ne_eqb, ltb-true, ltb-false, leb-true, le-leb}
use Rattle.outcome.specs.Outcomes.{Outcome, done, unless, Unrefused}
use Rattle.outcome.specs.Outcomes.Outcome.{refusal, answer}
use Rattle.outcome.proofs.Laws.{never, refusal_is_no_answer, same_answer}
use Rattle.message.specs.Message.{is_word}
use Rattle.rollcall_table.specs.declared.Record.{Record}
use Rattle.rollcall_table.specs.declared.Sighting.{Sighting}
use Rattle.rollcall_table.specs.Table.{one, blank, record_at, right_lengths, is_sound, holds, holder, free_place, is_in, has_room, unmarked, unmarked_all, record_of}
use Rattle.rollcall_table.proofs.Laws.{of_parts, sound-parts, lengths_right, live_within, free_is, free_first, in_holds, holds_in, holds_parts, alone}
use Rattle.rollcall_table.specs.Standing.{grade_number, record_beats}
use Rattle.rollcall_plans.specs.Calls.{altitude_values, found, added, renewed, absent, held, kept, add_answer, stands, clear_outcome, clear_records, find_outcome, remove_outcome, remove_count, remove_records, remove_places, add_outcome, add_count, add_records, add_places}
use Rattle.rollcall_plans.proofs.Laws.{add_by}
use Rattle.rollcall_meaning.specs.Maps.{Value, value_of, map_of, record_for, told, stands_over, is_some, Table, outcome, after}
use Rattle.rollcall_meaning.specs.Maps.Call.{add, remove, find}
use Rattle.rollcall_meaning.specs.Keeping.{SoundTable, RightLengths, FindGives, AbsentWhereNothing, AbsentChangesNothing, AddPuts, SaysWhetherItStands, HeldChangesNothing, FullExactly, RemoveTakesOut, ClearEmpties, ClearUnsetsMarks, RemoveUnsetsMark, AddChangesOne}
use Rattle.rollcall_meaning.proofs.Mapping.{map_is, map-none, some_in, none_in, put_map, remove-map, clear-map}

-- ---- the checks that a word of 24 bits and a sound table pass

word : (a : ℕ) → a ≤ 0xFFFFFF → is_word a ≡ true
unfolding is_word
word a h = le-leb a 0xFFFFFF h

narrow : (a : ℕ) → is_word a ≡ true → a ≤ 0xFFFFFF
unfolding is_word
narrow a e = leb-true a 0xFFFFFF e

pub passed : (t : Table) → SoundTable t → is_sound t.records t.places t.count ≡ true
passed t s = of_parts t.records t.places t.count (sound-parts t.records t.places t.count s)

both_passed : (w t : Bool) (o : Outcome) → w ≡ true → t ≡ true → unless w 3 (unless t 8 o) ≡ o
both_passed true true o x y = refl
both_passed true false o x y = absurd (never y refl)
both_passed false t o x y = absurd (never x refl)

-- a record that holds the address is found as the live one of the address
found_for : (r : Record) (a : ℕ) → holds r a ≡ true → found r ≡ found (record_for a (value_of r))
found_for r a h =
    let p = holds_parts r a h in
    ap (λ (l : Bool). answer 4 (one l ∷ r.address ∷ r.time ∷ grade_number r.grade ∷ altitude_values r.altitude)) p.0
    ∙ ap (λ (x : ℕ). answer 4 (1 ∷ x ∷ r.time ∷ grade_number r.grade ∷ altitude_values r.altitude)) p.1

pub find_passed : (t : Table) (a : ℕ) → is_sound t.records t.places t.count ≡ true → is_word a ≡ true → outcome (find a) t ≡ told a (map_of t.records a)
unfolding outcome find_outcome
find_passed t a s w = both_passed (is_word a) (is_sound t.records t.places t.count) _ w s ∙ by (is_in t.records a) refl ∙ ap (told a) (sym (map_is t.records a))
  where
    r : Record
    r = record_at t.records (holder t.records a)

    by : (i : Bool) → is_in t.records a ≡ i → cond i (found r) absent ≡ told a (cond i (some (value_of r)) none)
    by true e = found_for r a (in_holds t.records a e)
    by false e = refl

pub remove_passed : (t : Table) (a : ℕ) → is_sound t.records t.places t.count ≡ true → is_word a ≡ true → outcome (remove a) t ≡ cond (is_in t.records a) (answer 3 []) absent
unfolding outcome remove_outcome
remove_passed t a s w = both_passed (is_word a) (is_sound t.records t.places t.count) _ w s

-- ---- find

pub find_gives : FindGives
unfolding FindGives
find_gives t a s h = find_passed t a (passed t s) (word a h)

told-absent : (a : ℕ) (m : Option Value) → told a m ≡ absent → m ≡ none
told-absent a none e = refl
told-absent a (some v) e = let z : ◌≡◌ {A = ℕ} 4 5 = same_answer e in absurd (omega arith)

pub absent_where_nothing : AbsentWhereNothing
unfolding AbsentWhereNothing FindGives
absent_where_nothing t a s h = (
  ((λ e. told-absent a (map_of t.records a) (sym (find_gives t a s h) ∙ e)), λ e. find_gives t a s h ∙ ap (told a) e),
  ((λ e. map-none t.records a (not_in (is_in t.records a) (sym (remove_passed t a (passed t s) (word a h)) ∙ e))), λ e. remove_passed t a (passed t s) (word a h) ∙ ap (λ (b : Bool). cond b (answer 3 []) absent) (none_in t.records a e)),
)
  where
    not_in : (i : Bool) → cond i (answer 3 []) absent ≡ absent → i ≡ false
    not_in true e = let z : ◌≡◌ {A = ℕ} 3 5 = same_answer e in absurd (omega arith)
    not_in false e = refl

same_table : (rs rs' : List Record) (ps ps' : List ℕ) (n n' : ℕ) → rs' ≡ rs → ps' ≡ ps → n' ≡ n → ◌≡◌ {A = Table} (record { records = rs'; places = ps'; count = n' }) (record { records = rs; places = ps; count = n })
same_table rs rs' ps ps' n n' x y z = cc

-- what stands after a removal that answers 'absent'
stays : {X : Type 0} (w t i : Bool) (x y : X) → unless w 3 (unless t 8 (cond i (answer 3 []) absent)) ≡ absent → kept (unless w 3 (unless t 8 (cond i (answer 3 []) absent))) x (cond i y x) ≡ x
stays true true true x y e = let z : ◌≡◌ {A = ℕ} 3 5 = same_answer e in absurd (omega arith)
stays true true false x y e = refl
stays true false i x y e = refl
stays false t i x y e = refl

pub absent_changes_nothing : AbsentChangesNothing
unfolding AbsentChangesNothing outcome after remove_records remove_places remove_count remove_outcome
absent_changes_nothing t a = ((λ e. same_table t.records _ t.places _ t.count _ (stays w s i t.records _ e) (stays w s i t.places _ e) (stays w s i t.count _ e)), refl)
  where
    w : Bool
    w = is_word a

    s : Bool
    s = is_sound t.records t.places t.count

    i : Bool
    i = is_in t.records a

-- ---- add or renew

-- what is written where nothing is refused
written : (w t i g b : Bool) (rs rs' : List Record) → Unrefused (add_by w t i g b)
    → (kept (add_by w t i g b) rs (cond (not i || b) rs' rs) ≡ cond (not i || b) rs' rs)
    × ((add_by w t i g b ≡ cond i (cond (not i || b) renewed held) added) × ((i ≡ true) ⊎ ((i ≡ false) × (g ≡ true))))
written true true true g true rs rs' u = (refl, (refl, inl refl))
written true true true g false rs rs' u = (refl, (refl, inl refl))
written true true false true b rs rs' u = (refl, (refl, inr (refl, refl)))
written true true false false b rs rs' u = absurd (u 9 refl)
written true false i g b rs rs' u = absurd (u 8 refl)
written false t i g b rs rs' u = absurd (u 3 refl)

-- what remains where the answer is 'held'
remains : (w t i g b : Bool) (rs rs' : List Record) (ps ps' : List ℕ) (n n' : ℕ) → add_by w t i g b ≡ held
    → (kept (add_by w t i g b) rs (cond (not i || b) rs' rs) ≡ rs) × ((kept (add_by w t i g b) ps (cond i ps ps') ≡ ps) × (kept (add_by w t i g b) n (cond i n n') ≡ n))
remains true true true g true rs rs' ps ps' n n' e = let z : ◌≡◌ {A = ℕ} 2 6 = same_answer e in absurd (omega arith)
remains true true true g false rs rs' ps ps' n n' e = (refl, (refl, refl))
remains true true false true b rs rs' ps ps' n n' e = let z : ◌≡◌ {A = ℕ} 1 6 = same_answer e in absurd (omega arith)
remains true true false false b rs rs' ps ps' n n' e = (refl, (refl, refl))
remains true false i g b rs rs' ps ps' n n' e = (refl, (refl, refl))
remains false t i g b rs rs' ps ps' n n' e = (refl, (refl, refl))

-- the place that is written, of any table
pub record Put (rs : List Record) (a p : ℕ) : Type 0 where
  pub within : p < length rs
  pub old : (holds (record_at rs p) a ≡ true) ⊎ ((record_at rs p).live ≡ false)

pub put-place : (rs : List Record) (a : ℕ) → (is_in rs a ≡ true) ⊎ ((is_in rs a ≡ false) × (has_room rs ≡ true)) → Put rs a (cond (is_in rs a) (holder rs a) (free_place rs))
put-place rs a (inl e) = subst (λ (b : Bool). Put rs a (cond b (holder rs a) (free_place rs))) (sym e) (record { within = live_within rs (holder rs a) (holds_parts (record_at rs (holder rs a)) a (in_holds rs a e)).0; old = inl (in_holds rs a e) })
put-place rs a (inr (e, g)) = subst (λ (b : Bool). Put rs a (cond b (holder rs a) (free_place rs))) (sym e) (let h = ltb-true (free_place rs) (length rs) g in record { within = h; old = inr (free_is rs h) })

module _ (t : Table) (s : Sighting) where
  abbrev place : ℕ
  place = cond (is_in t.records s.address) (holder t.records s.address) (free_place t.records)

  abbrev beaten : Bool
  beaten = record_beats (record_of s) (record_at t.records (holder t.records s.address))

  pub add-written : Unrefused (outcome (add s) t)
      → ((after (add s) t).records ≡ cond (stands t.records s) (set t.records (cond (is_in t.records s.address) (holder t.records s.address) (free_place t.records)) (record_of s)) t.records)
      × ((outcome (add s) t ≡ cond (is_in t.records s.address) (cond (stands t.records s) renewed held) added) × ((is_in t.records s.address ≡ true) ⊎ ((is_in t.records s.address ≡ false) × (has_room t.records ≡ true))))
  unfolding outcome after add_outcome add_records
  add-written u = written (is_word s.address) (is_sound t.records t.places t.count) (is_in t.records s.address) (has_room t.records) beaten t.records (set t.records place (record_of s)) u

  -- whether a reply stands, by the table and by its map
  pub stands-over : stands_over (value_of (record_of s)) (map_of t.records s.address) ≡ stands t.records s
  stands-over = ap (stands_over (value_of (record_of s))) (map_is t.records s.address) ∙ by (is_in t.records s.address)
    where
      by : (i : Bool) → stands_over (value_of (record_of s)) (cond i (some (value_of (record_at t.records (holder t.records s.address)))) none) ≡ (not i || beaten)
      by true = refl
      by false = refl

pub held_changes_nothing : HeldChangesNothing
unfolding HeldChangesNothing outcome after add_records add_places add_count add_outcome
held_changes_nothing t s e =
    let r = remains (is_word s.address) (is_sound t.records t.places t.count) (is_in t.records s.address) (has_room t.records) (beaten t s) t.records _ t.places _ t.count _ e in
    same_table t.records _ t.places _ t.count _ r.0 r.1.0 r.1.1

-- in a sound table no other record holds the address
only_place : (t : Table) (a : ℕ) → SoundTable t → (is_in t.records a ≡ true) ⊎ ((is_in t.records a ≡ false) × (has_room t.records ≡ true))
    → (i : ℕ) → holds (record_at t.records i) a ≡ true → i ≡ cond (is_in t.records a) (holder t.records a) (free_place t.records)
only_place t a s (inl e) i x = subst (λ (b : Bool). i ≡ cond b (holder t.records a) (free_place t.records)) (sym e) (alone t.records t.places t.count s i (holder t.records a) a x (in_holds t.records a e))
only_place t a s (inr (e, g)) i x = absurd (never (holds_in t.records a i x) e)

pub add_puts : AddPuts
unfolding AddPuts
add_puts t s sd u b =
    ap (λ (rs : List Record). map_of rs b) (add-written t s u).0 ∙ by (stands t.records s)
    ∙ ap (λ (c : Bool). cond (c && eqb b s.address) (some (value_of (record_of s))) (map_of t.records b)) (sym (stands-over t s))
  where
    by : (c : Bool) → map_of (cond c (set t.records (place t s) (record_of s)) t.records) b ≡ cond (c && eqb b s.address) (some (value_of (record_of s))) (map_of t.records b)
    by true =
        let w = add-written t s u in
        let p = put-place t.records s.address w.1.1 in
        put_map t.records s.address (place t s) (record_of s) p.within refl refl p.old (only_place t s.address sd w.1.1) b
    by false = refl

pub says_whether_it_stands : SaysWhetherItStands
unfolding SaysWhetherItStands
says_whether_it_stands t s sd u =
    (add-written t s u).1.0 ∙ ap (λ (b : Bool). cond b (cond (stands t.records s) renewed held) added) (sym (some_in t.records s.address))
    ∙ ap (λ (c : Bool). cond (is_some (map_of t.records s.address)) (cond c renewed held) added) (sym (stands-over t s))

-- what adding answers on a sound table, by its tests
pub add_passed : (t : Table) (s : Sighting) → SoundTable t → s.address ≤ 0xFFFFFF → outcome (add s) t ≡ add_answer (is_in t.records s.address) (has_room t.records) (stands t.records s)
unfolding outcome add_outcome
add_passed t s sd h = both_passed (is_word s.address) (is_sound t.records t.places t.count) _ (word s.address h) (passed t sd)

pub full_exactly : FullExactly
unfolding FullExactly
full_exactly t s sd h = (λ e. there (is_in rs a) refl (has_room rs) refl (stands rs s) (sym (add_passed t s sd h) ∙ e), λ f. add_passed t s sd h ∙ back (is_in rs a) (has_room rs) (stands rs s) (none_in rs a f.0) (no_room f))
  where
    rs : List Record
    rs = t.records

    a : ℕ
    a = s.address

    there : (i : Bool) → is_in rs a ≡ i → (g : Bool) → has_room rs ≡ g → (c : Bool) → add_answer i g c ≡ refusal 9 → (map_of rs a ≡ none) × ((i : ℕ) → i < length rs → (record_at rs i).live ≡ true)
    there true x g y true e = absurd (refusal_is_no_answer (sym e))
    there true x g y false e = absurd (refusal_is_no_answer (sym e))
    there false x true y c e = absurd (refusal_is_no_answer (sym e))
    there false x false y c e = (map-none rs a x, λ i l. free_first rs i (omega (arith, l, ltb-false (free_place rs) (length rs) y)))

    no_room : (map_of rs a ≡ none) × ((i : ℕ) → i < length rs → (record_at rs i).live ≡ true) → has_room rs ≡ false
    no_room f = by (has_room rs) refl
      where
        by : (g : Bool) → has_room rs ≡ g → g ≡ false
        by true y = let l = ltb-true (free_place rs) (length rs) y in absurd (never (f.1 (free_place rs) l) (free_is rs l))
        by false y = refl

    back : (i g c : Bool) → i ≡ false → g ≡ false → add_answer i g c ≡ refusal 9
    back true g c x y = absurd (never refl x)
    back false true c x y = absurd (never refl y)
    back false false c x y = refl

-- ---- remove

removed : (w t i : Bool) (rs rs' : List Record) → kept (unless w 3 (unless t 8 (cond i (answer 3 []) absent))) rs (cond i rs' rs) ≡ cond w (cond t (cond i rs' rs) rs) rs
removed true true true rs rs' = refl
removed true true false rs rs' = refl
removed true false i rs rs' = refl
removed false t i rs rs' = refl

pub remove_takes_out : RemoveTakesOut
unfolding RemoveTakesOut after remove_records remove_outcome
remove_takes_out t a s h b =
    ap (λ (l : List Record). map_of l b) (removed (is_word a) (is_sound rs t.places t.count) (is_in rs a) rs (set rs (holder rs a) (unmarked (record_at rs (holder rs a))))
    ∙ ap (λ (w : Bool). cond w (cond (is_sound rs t.places t.count) (cond (is_in rs a) (set rs (holder rs a) (unmarked (record_at rs (holder rs a)))) rs) rs) rs) (word a h)
    ∙ ap (λ (w : Bool). cond w (cond (is_in rs a) (set rs (holder rs a) (unmarked (record_at rs (holder rs a)))) rs) rs) (passed t s))
    ∙ by (is_in rs a) refl
  where
    rs : List Record
    rs = t.records

    by : (i : Bool) → is_in rs a ≡ i → map_of (cond i (set rs (holder rs a) (unmarked (record_at rs (holder rs a)))) rs) b ≡ cond (eqb b a) none (map_of rs b)
    by true e = remove-map rs a e (λ i x. alone rs t.places t.count s i (holder rs a) a x (in_holds rs a e)) b
    by false e = at (eqb b a) refl
      where
        at : (c : Bool) → eqb b a ≡ c → map_of rs b ≡ cond c none (map_of rs b)
        at true c = ap (map_of rs) (eqb-true b a c) ∙ map-none rs a e
        at false c = refl

-- removing another address leaves what the map has of this one
pub remove_spares : (t : Table) (b a : ℕ) → SoundTable t → eqb b a ≡ false → map_of (after (remove b) t).records a ≡ map_of t.records a
unfolding RemoveTakesOut after remove_records remove_outcome
remove_spares t b a sd n = by (is_word b) refl
  where
    rs : List Record
    rs = t.records

    by : (w : Bool) → is_word b ≡ w → map_of (after (remove b) t).records a ≡ map_of t.records a
    by true w = remove_takes_out t b sd (narrow b w) a ∙ ap (λ (c : Bool). cond c none (map_of rs a)) (ne_eqb a b (λ e. eqb-false b a n (sym e)))
    by false w =
        ap (λ (l : List Record). map_of l a) (removed (is_word b) (is_sound rs t.places t.count) (is_in rs b) rs (set rs (holder rs b) (unmarked (record_at rs (holder rs b))))
        ∙ ap (λ (c : Bool). cond c (cond (is_sound rs t.places t.count) (cond (is_in rs b) (set rs (holder rs b) (unmarked (record_at rs (holder rs b)))) rs) rs) rs) w)

-- ---- clear

pub clear-done : (t : Table) → RightLengths t → clear_records t.records t.places ≡ unmarked_all t.records
unfolding clear_records clear_outcome
clear-done t h = by (right_lengths (length t.records) (length t.places)) (lengths_right (length t.records) (length t.places) h.0 h.1.0 h.1.1)
  where
    by : (b : Bool) → b ≡ true → kept (unless b 8 done) t.records (unmarked_all t.records) ≡ unmarked_all t.records
    by true e = refl
    by false e = absurd (never e refl)

pub clear_empties : ClearEmpties
unfolding ClearEmpties after
clear_empties t h b = ap (λ (rs : List Record). map_of rs b) (clear-done t h) ∙ clear-map t.records b

-- ---- record by record

unmarked-at : (rs : List Record) (i : ℕ) → record_at (unmarked_all rs) i ≡ unmarked (record_at rs i)
unmarked-at [] i = refl
unmarked-at (r ∷ rs) zero = refl
unmarked-at (r ∷ rs) (suc i) = unmarked-at rs i

pub clear_unsets_marks : ClearUnsetsMarks
unfolding ClearUnsetsMarks after clear_records clear_outcome
clear_unsets_marks t i = by (right_lengths (length t.records) (length t.places))
  where
    by : (b : Bool) → (record_at (kept (unless b 8 done) t.records (unmarked_all t.records)) i ≡ record_at t.records i) ⊎ (record_at (kept (unless b 8 done) t.records (unmarked_all t.records)) i ≡ unmarked (record_at t.records i))
    by true = inr (unmarked-at t.records i)
    by false = inl refl

pub remove_unsets_mark : RemoveUnsetsMark
unfolding RemoveUnsetsMark after remove_records remove_outcome
remove_unsets_mark t a i = by (is_word a) (is_sound rs t.places t.count) (is_in rs a) refl
  where
    rs : List Record
    rs = t.records

    h : ℕ
    h = holder rs a

    u : Record
    u = unmarked (record_at rs h)

    at : is_in rs a ≡ true → (b : Bool) → eqb i h ≡ b → (record_at (set rs h u) i ≡ record_at rs i) ⊎ ((holds (record_at rs i) a ≡ true) × (record_at (set rs h u) i ≡ unmarked (record_at rs i)))
    at e true c =
        let s : i ≡ h = eqb-true i h c in
        let x = in_holds rs a e in
        inr (ap (λ (k : ℕ). holds (record_at rs k) a) s ∙ x, ap (λ (k : ℕ). record_at (set rs h u) k) s ∙ get_or-set_same rs h u blank (live_within rs h (holds_parts (record_at rs h) a x).0) ∙ sym (ap (λ (k : ℕ). unmarked (record_at rs k)) s))
    at e false c = inl (get_or-set_other rs h i u blank (eqb-false i h c))

    by : (w t' j : Bool) → is_in rs a ≡ j → (record_at (kept (unless w 3 (unless t' 8 (cond j (answer 3 []) absent))) rs (cond j (set rs h u) rs)) i ≡ record_at rs i) ⊎ ((holds (record_at rs i) a ≡ true) × (record_at (kept (unless w 3 (unless t' 8 (cond j (answer 3 []) absent))) rs (cond j (set rs h u) rs)) i ≡ unmarked (record_at rs i)))
    by true true true e = at e (eqb i h) refl
    by true true false e = inl refl
    by true false j e = inl refl
    by false t' j e = inl refl

-- a reply that does not stand is of a live address
not_standing : (i b : Bool) → (not i || b) ≡ false → i ≡ true
not_standing true b e = refl
not_standing false b e = absurd (never refl e)

pub add_changes_one : AddChangesOne
unfolding AddChangesOne
add_changes_one t s u h =
    let w = add-written t s u in
    let o = put-place t.records s.address w.1.1 in
    let r : (after (add s) t).records ≡ set t.records (place t s) (record_of s) = w.0 ∙ ap (λ (c : Bool). cond c (set t.records (place t s) (record_of s)) t.records) (stood (stands t.records s) refl) in (
      place t s,
      (o.old, (ap (λ (rs : List Record). record_at rs (place t s)) r ∙ get_or-set_same t.records (place t s) (record_of s) blank o.within, λ i ne. ap (λ (rs : List Record). record_at rs i) r ∙ get_or-set_other t.records (place t s) i (record_of s) blank ne)),
    )
  where
    stood : (c : Bool) → stands t.records s ≡ c → c ≡ true
    stood true e = refl
    stood false e =
        absurd (h ((add-written t s u).1.0 ∙ ap (λ (c : Bool). cond (is_in t.records s.address) (cond c renewed held) added) e
        ∙ ap (λ (i : Bool). cond i held added) (not_standing (is_in t.records s.address) (beaten t s) e)))
