-- Lists of calls. The idea: a sound table is like a plain map with as many entries as the count and as much room as there are
-- records; every call answers alike on the two, and leaves them alike.
use mathlib.Core.Path.{◌≡◌, refl, sym, ap, ◌∙◌, subst}
use mathlib.Core.Bool.{Bool, true, false, not, cond, ◌||◌}
use mathlib.Core.List.{List, [], ◌∷◌}
use mathlib.Core.Logic.{inl, inr}
use mathlib.Core.Option.{Option, none, some}
use Prim.Native.Nat.{ℕ, ◌+◌, ◌-◌, ◌<◌}
use native.Mathlib.Omega.{arith}
use lib.Dec.{eqb, ltb}
use lib.ListN.{length, set, length-set}
use borrow.Author.Tests.{ltb-true, ltb-false, lt-ltb, le-ltb}
use Rattle.outcome.specs.Outcomes.{Outcome, done, unless}
use Rattle.outcome.specs.Outcomes.Outcome.{refusal, answer}
use Rattle.outcome.proofs.Laws.{never}
use Rattle.message.specs.Message.{is_word}
use Rattle.rollcall_table.specs.declared.Record.{Record}
use Rattle.rollcall_table.specs.declared.Sighting.{Sighting}
use Rattle.rollcall_table.specs.Table.{record_at, is_sound, holds, holder, free_place, is_in, has_room, unmarked, unmarked_all, record_of}
use Rattle.rollcall_table.proofs.Laws.{Parts, of_parts, sound, lengths_right, free_fewer, full, in_holds, holds_in, alone}
use Rattle.rollcall_table.specs.Standing.{record_beats}
use Rattle.rollcall_plans.specs.Calls.{add_answer, stands, found, absent, kept, clear_outcome, clear_count, clear_records, find_outcome, remove_outcome, remove_count, remove_records, add_outcome, add_count, add_records}
use Rattle.rollcall_plans.proofs.Laws.{add_by}
use Rattle.rollcall_meaning.specs.Maps.{Value, value_of, stands_over, map_of, told, is_some, Call, Table, outcome, after, Entries, lookup, put, take_out, plain_outcome, plain_after}
use Rattle.rollcall_meaning.specs.Maps.Call.{clear, add, remove, find}
use Rattle.rollcall_meaning.specs.Keeping.{RightLengths}
use Rattle.rollcall_meaning.specs.Running.{answers, plain_answers, AnswersOfAPlainMap}
use Rattle.rollcall_meaning.proofs.Sounding.{kept-parts, cleared-parts, unmarked-length}
use Rattle.rollcall_meaning.proofs.Mapping.{some_in, put_map, remove-map, clear-map}
use Rattle.rollcall_meaning.proofs.Changing.{find_passed, clear-done, Put, put-place, stands-over}
use Rattle.rollcall_meaning.proofs.Plain.{Distinct, lookup-put, put_new, put_old, put_distinct, lookup_out, out_old, out_new, out_distinct}

-- a table and a plain map with room for r entries
pub record Like (r : ℕ) (t : Table) (m : Entries) : Type 0 where
  pub parts : Parts t.records t.places t.count
  pub room : length t.records ≡ r
  pub maps : (b : ℕ) → map_of t.records b ≡ lookup m b
  pub size : length m ≡ t.count
  pub distinct : Distinct m

-- ---- the tests agree

room_is : (rs : List Record) (ps : List ℕ) (n : ℕ) → Parts rs ps n → has_room rs ≡ ltb n (length rs)
room_is rs ps n p = by (has_room rs) refl
  where
    by : (b : Bool) → has_room rs ≡ b → b ≡ ltb n (length rs)
    by true e = sym (lt-ltb n (length rs) (subst (λ (k : ℕ). k < length rs) p.live (free_fewer rs (ltb-true (free_place rs) (length rs) e))))
    by false e = sym (le-ltb n (length rs) (omega (arith, p.live, full rs (ltb-false (free_place rs) (length rs) e))))

module _ (r : ℕ) (t : Table) (m : Entries) (l : Like r t m) where
  known : is_sound t.records t.places t.count ≡ true
  known = of_parts t.records t.places t.count l.parts

  present : (a : ℕ) → is_some (lookup m a) ≡ is_in t.records a
  present a = ap is_some (sym (l.maps a)) ∙ some_in t.records a

  free : ltb (length m) r ≡ has_room t.records
  free = ap (λ (k : ℕ). ltb k r) l.size ∙ ap (λ (k : ℕ). ltb t.count k) (sym l.room) ∙ sym (room_is t.records t.places t.count l.parts)

-- ---- the answers agree

abbrev remove3 : Bool → Bool → Bool → Outcome
remove3 w t i = unless w 3 (unless t 8 (cond i (answer 3 []) absent))

-- whether a reply stands, by the table and by the map
module _ (r : ℕ) (t : Table) (m : Entries) (s : Sighting) (l : Like r t m) where
  abbrev beaten : Bool
  beaten = record_beats (record_of s) (record_at t.records (holder t.records s.address))

  stands_alike : stands_over (value_of (record_of s)) (lookup m s.address) ≡ stands t.records s
  stands_alike = ap (stands_over (value_of (record_of s))) (sym (l.maps s.address)) ∙ stands-over t s

  plain-add : plain_outcome r (add s) m ≡ add_by (is_word s.address) true (is_in t.records s.address) (has_room t.records) beaten
  unfolding plain_outcome
  plain-add =
      ap (λ (i : Bool). unless (is_word s.address) 3 (add_answer i (ltb (length m) r) (stands_over (value_of (record_of s)) (lookup m s.address)))) (present r t m l s.address)
      ∙ ap (λ (g : Bool). unless (is_word s.address) 3 (add_answer (is_in t.records s.address) g (stands_over (value_of (record_of s)) (lookup m s.address)))) (free r t m l)
      ∙ ap (λ (c : Bool). unless (is_word s.address) 3 (add_answer (is_in t.records s.address) (has_room t.records) c)) stands_alike

  plain-added : plain_after r (add s) m ≡ kept (add_by (is_word s.address) true (is_in t.records s.address) (has_room t.records) beaten) m (cond (stands t.records s) (put s.address (value_of (record_of s)) m) m)
  unfolding plain_after
  plain-added =
      ap (λ (o : Outcome). kept o m (cond (stands_over (value_of (record_of s)) (lookup m s.address)) (put s.address (value_of (record_of s)) m) m)) plain-add
      ∙ ap (λ (c : Bool). kept (add_by (is_word s.address) true (is_in t.records s.address) (has_room t.records) beaten) m (cond c (put s.address (value_of (record_of s)) m) m)) stands_alike

plain-remove : (r : ℕ) (t : Table) (m : Entries) (a : ℕ) → Like r t m → plain_outcome r (remove a) m ≡ remove3 (is_word a) true (is_in t.records a)
unfolding plain_outcome
plain-remove r t m a l = ap (remove3 (is_word a) true) (present r t m l a)

alike : (r : ℕ) (t : Table) (m : Entries) (c : Call) → Like r t m → outcome c t ≡ plain_outcome r c m
unfolding outcome clear_outcome add_outcome remove_outcome find_outcome plain_outcome
alike r t m clear l = ap (λ (b : Bool). unless b 8 done) (lengths_right (length t.records) (length t.places) l.parts.same l.parts.some l.parts.few)
alike r t m (add s) l = ap (λ (b : Bool). add_by (is_word s.address) b (is_in t.records s.address) (has_room t.records) (beaten r t m s l)) (known r t m l) ∙ sym (plain-add r t m s l)
alike r t m (remove a) l = ap (λ (b : Bool). remove3 (is_word a) b (is_in t.records a)) (known r t m l) ∙ sym (plain-remove r t m a l)
alike r t m (find a) l = by (is_word a) refl
  where
    by : (w : Bool) → is_word a ≡ w → outcome (find a) t ≡ unless w 3 (told a (lookup m a))
    by true w = find_passed t a (known r t m l) w ∙ ap (told a) (l.maps a)
    by false w = ap (λ (b : Bool). unless b 3 (unless (is_sound t.records t.places t.count) 8 (cond (is_in t.records a) (found (record_at t.records (holder t.records a))) absent))) w

-- ---- what is left is alike

set-length : (o : Outcome) (i : Bool) (rs : List Record) (p : ℕ) (r : Record) → length (kept o rs (cond i (set rs p r) rs)) ≡ length rs
set-length (refusal n) i rs p r = refl
set-length (answer n vs) true rs p r = length-set rs p r
set-length (answer n vs) false rs p r = refl

clear-length : (o : Outcome) (rs : List Record) → length (kept o rs (unmarked_all rs)) ≡ length rs
clear-length (refusal n) rs = refl
clear-length (answer n vs) rs = unmarked-length rs

after-length : (t : Table) (c : Call) → length (after c t).records ≡ length t.records
unfolding after clear_records add_records remove_records
after-length t clear = clear-length (clear_outcome t.records t.places) t.records
after-length t (add s) = set-length (add_outcome t.records t.places t.count s) (stands t.records s) t.records _ (record_of s)
after-length t (remove a) = set-length (remove_outcome t.records t.places t.count a) (is_in t.records a) t.records (holder t.records a) _
after-length t (find a) = refl

-- in a table that is like a map no other record holds the address
only : (r : ℕ) (t : Table) (m : Entries) (a p : ℕ) → Like r t m → holds (record_at t.records p) a ≡ true → (i : ℕ) → holds (record_at t.records i) a ≡ true → i ≡ p
only r t m a p l x i y = alone t.records t.places t.count (sound t.records t.places t.count l.parts) i p a y x

module _ (r : ℕ) (t : Table) (m : Entries) (s : Sighting) (l : Like r t m) where
  abbrev v : Value
  v = value_of (record_of s)

  add-maps : (w i g b : Bool) → is_in t.records s.address ≡ i → has_room t.records ≡ g → (x : ℕ)
      → map_of (kept (add_by w true i g b) t.records (cond (not i || b) (set t.records (cond i (holder t.records s.address) (free_place t.records)) (record_of s)) t.records)) x
      ≡ lookup (kept (add_by w true i g b) m (cond (not i || b) (put s.address v m) m)) x
  add-maps true true g true e f x =
      let p = put-place t.records s.address (inl e) in
      let q : Put t.records s.address (holder t.records s.address) = subst (λ (c : Bool). Put t.records s.address (cond c (holder t.records s.address) (free_place t.records))) e p in
      put_map t.records s.address (holder t.records s.address) (record_of s) q.within refl refl q.old (only r t m s.address (holder t.records s.address) l (in_holds t.records s.address e)) x
      ∙ ap (λ (o : Option Value). cond (eqb x s.address) (some v) o) (l.maps x) ∙ sym (lookup-put s.address v m x)
  add-maps true true g false e f x = l.maps x
  add-maps true false true b e f x =
      let p = put-place t.records s.address (inr (e, f)) in
      let q : Put t.records s.address (free_place t.records) = subst (λ (c : Bool). Put t.records s.address (cond c (holder t.records s.address) (free_place t.records))) e p in
      put_map t.records s.address (free_place t.records) (record_of s) q.within refl refl q.old (λ i z. absurd (never (holds_in t.records s.address i z) e)) x
      ∙ ap (λ (o : Option Value). cond (eqb x s.address) (some v) o) (l.maps x) ∙ sym (lookup-put s.address v m x)
  add-maps true false false b e f x = l.maps x
  add-maps false i g b e f x = l.maps x

  add-size : (w i g b : Bool) → is_in t.records s.address ≡ i
      → length (kept (add_by w true i g b) m (cond (not i || b) (put s.address v m) m)) ≡ kept (add_by w true i g b) t.count (cond i t.count (t.count + 1))
  add-size true true g true e = put_old s.address v m (present r t m l s.address ∙ e) ∙ l.size
  add-size true true g false e = l.size
  add-size true false true b e = omega (arith, put_new s.address v m (present r t m l s.address ∙ e), l.size)
  add-size true false false b e = l.size
  add-size false i g b e = l.size

  add_apart : (o : Outcome) (c : Bool) → Distinct (kept o m (cond c (put s.address v m) m))
  add_apart (refusal n) c = l.distinct
  add_apart (answer n vs) true = put_distinct s.address v m l.distinct
  add_apart (answer n vs) false = l.distinct

module _ (r : ℕ) (t : Table) (m : Entries) (a : ℕ) (l : Like r t m) where
  remove-maps : (w i : Bool) → is_in t.records a ≡ i
      → (b : ℕ) → map_of (kept (remove3 w true i) t.records (cond i (set t.records (holder t.records a) (unmarked (record_at t.records (holder t.records a)))) t.records)) b ≡ lookup (kept (remove3 w true i) m (take_out a m)) b
  remove-maps true true x b =
      remove-map t.records a x (only r t m a (holder t.records a) l (in_holds t.records a x)) b ∙ ap (λ (o : Option Value). cond (eqb b a) none o) (l.maps b) ∙ sym (lookup_out a m b l.distinct)
  remove-maps true false x b = l.maps b ∙ sym (ap (λ (e : Entries). lookup e b) (out_new a m (present r t m l a ∙ x)))
  remove-maps false i x b = l.maps b

  remove-size : (w i : Bool) → is_in t.records a ≡ i → length (kept (remove3 w true i) m (take_out a m)) ≡ kept (remove3 w true i) t.count (cond i (t.count - 1) t.count)
  remove-size true true x = omega (arith, out_old a m (present r t m l a ∙ x), l.size)
  remove-size true false x = ap length (out_new a m (present r t m l a ∙ x)) ∙ l.size
  remove-size false i x = l.size

  remove-apart : (o : Outcome) → Distinct (kept o m (take_out a m))
  remove-apart (refusal n) = l.distinct
  remove-apart (answer n vs) = out_distinct a m l.distinct

pub like_cleared : (r : ℕ) (t : Table) → RightLengths t → length t.records ≡ r → Like r (after clear t) []
unfolding after lookup Distinct clear_count clear_outcome
like_cleared r t h e = record {
  parts = cleared-parts t h;
  room = after-length t clear ∙ e;
  maps = λ b. ap (λ (rs : List Record). map_of rs b) (clear-done t h) ∙ clear-map t.records b;
  size = sym (ap (λ (b : Bool). kept (unless b 8 done) t.count 0) (lengths_right (length t.records) (length t.places) h.0 h.1.0 h.1.1));
  distinct = tt;
}

-- a cleared table has room
pub cleared-room : (t : Table) → RightLengths t → has_room (after clear t).records ≡ true
cleared-room t h =
    let l = like_cleared (length t.records) t h refl in
    sym (free (length t.records) (after clear t) [] l) ∙ lt-ltb 0 (length t.records) (omega (arith, h.1.0))

like_after : (r : ℕ) (t : Table) (m : Entries) (c : Call) → Like r t m → Like r (after c t) (plain_after r c m)
unfolding after plain_after add_records add_count add_outcome remove_records remove_count remove_outcome
like_after r t m clear l = like_cleared r t (l.parts.same, (l.parts.some, l.parts.few)) l.room
like_after r t m (add s) l =
    let a = s.address in
    let i = is_in t.records a in
    let g = has_room t.records in
    let b = beaten r t m s l in
    let e = plain-added r t m s l in record {
      parts = kept-parts t (add s) l.parts;
      room = after-length t (add s) ∙ l.room;
      maps = λ x. ap (λ (k : Bool). map_of (kept (add_by (is_word a) k i g b) t.records (cond (not i || b) (set t.records (cond i (holder t.records a) (free_place t.records)) (record_of s)) t.records)) x) (known r t m l) ∙ add-maps r t m s l (is_word a) i g b refl refl x ∙ sym (ap (λ (n : Entries). lookup n x) e);
      size = ap (λ (n : Entries). length n) e ∙ add-size r t m s l (is_word a) i g b refl ∙ sym (ap (λ (k : Bool). kept (add_by (is_word a) k i g b) t.count (cond i t.count (t.count + 1))) (known r t m l));
      distinct = subst Distinct (sym e) (add_apart r t m s l (add_by (is_word a) true i g b) (stands t.records s));
    }
like_after r t m (remove a) l =
    let i = is_in t.records a in
    let e = plain-remove r t m a l in record {
      parts = kept-parts t (remove a) l.parts;
      room = after-length t (remove a) ∙ l.room;
      maps = λ b. ap (λ (k : Bool). map_of (kept (remove3 (is_word a) k i) t.records (cond i (set t.records (holder t.records a) (unmarked (record_at t.records (holder t.records a)))) t.records)) b) (known r t m l) ∙ remove-maps r t m a l (is_word a) i refl b ∙ sym (ap (λ (o : Outcome). lookup (kept o m (take_out a m)) b) e);
      size = ap (λ (o : Outcome). length (kept o m (take_out a m))) e ∙ remove-size r t m a l (is_word a) i refl ∙ sym (ap (λ (k : Bool). kept (remove3 (is_word a) k i) t.count (cond i (t.count - 1) t.count)) (known r t m l));
      distinct = remove-apart r t m a l (plain_outcome r (remove a) m);
    }
like_after r t m (find a) l = l

-- ---- lists of calls

runs_alike : (r : ℕ) (cs : List Call) (t : Table) (m : Entries) → Like r t m → answers cs t ≡ plain_answers r cs m
unfolding answers plain_answers
runs_alike r [] t m l = refl
runs_alike r (c ∷ cs) t m l =
    ap (λ (o : Outcome). o ∷ answers cs (after c t)) (alike r t m c l) ∙ ap (plain_outcome r c m ∷◌) (runs_alike r cs (after c t) (plain_after r c m) (like_after r t m c l))

pub answers_of_a_plain-map : AnswersOfAPlainMap
unfolding AnswersOfAPlainMap
answers_of_a_plain-map t cs h = runs_alike (length t.records) cs (after clear t) [] (like_cleared (length t.records) t h refl)
