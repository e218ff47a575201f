-- Every call leaves a sound table sound.
use mathlib.Core.Path.{◌≡◌, refl, sym, ap, ◌∙◌, subst}
use mathlib.Core.Bool.{Bool, true, false, not, cond, ◌&&◌, ◌||◌}
use mathlib.Core.List.{List, [], ◌∷◌}
use Prim.Native.Nat.{ℕ, suc, ◌+◌, ◌-◌, ◌≤◌, ◌<◌}
use native.Mathlib.Nat.{zero-add}
use native.Mathlib.Omega.{arith}
use lib.Dec.{eqb, ltb}
use lib.ListN.{length, set, take, length-set}
use lib.Seq.{get_or-set_same, get_or-set_other, get_or-take, length-take-le}
use borrow.Author.Tests.{eqb-true, eqb-false, ltb-true}
use Rattle.outcome.specs.Outcomes.{done, unless}
use Rattle.outcome.specs.Outcomes.Outcome.{answer}
use Rattle.outcome.proofs.Laws.{never, both}
use Rattle.message.specs.Message.{is_word}
use Rattle.rollcall_table.specs.declared.Record.{Record}
use Rattle.rollcall_table.specs.declared.Sighting.{Sighting}
use Rattle.rollcall_table.specs.Table.{largest, blank, record_at, place_at, address_at, right_lengths, live_in, in_order, is_sound, holds, holder, free_place, is_in, has_room, position, unmarked, unmarked_all, record_of}
use Rattle.rollcall_table.proofs.Laws.{Parts, parts, of_parts, sound, sound-parts, lengths_right, in-there, in_holds, holds_in, holds_parts, alone, same_count, less_count, more_count, live_within, free_is, free_fewer}
use Rattle.rollcall_plans.specs.Calls.{absent, kept, opened, closed, clear_outcome, clear_count, clear_records, remove_outcome, remove_count, remove_records, remove_places, add_outcome, add_count, add_records, add_places}
use Rattle.rollcall_plans.proofs.Laws.{open-length, close_length, position-le, add_by}
use Rattle.rollcall_meaning.specs.Maps.{Call, Table, after}
use Rattle.rollcall_meaning.specs.Maps.Call.{clear, add, remove, find}
use Rattle.rollcall_meaning.specs.Keeping.{CheckedIsSound, RightLengths, KeepsSound, ClearMends, NoneLiveTwice}
use Rattle.rollcall_meaning.proofs.Ordering.{order_same, delete, order_delete, close_take, insert, order_insert, open-take}

-- ---- the check

pub checked_is_sound : CheckedIsSound
unfolding CheckedIsSound
checked_is_sound rs ps n = ((λ e. sound rs ps n (parts rs ps n e)), λ s. of_parts rs ps n (sound-parts rs ps n s))

pub none_live_twice : NoneLiveTwice
unfolding NoneLiveTwice
none_live_twice t s a i j x y = alone t.records t.places t.count s i j a x y

-- ---- the parts of a table after each call

module _ (rs : List Record) (ps : List ℕ) (n : ℕ) (p : Parts rs ps n) where
  long : n ≤ length ps
  long = subst (λ (k : ℕ). n ≤ k) p.same p.counted

  pub removed : (a : ℕ) → is_in rs a ≡ true → Parts (set rs (holder rs a) (unmarked (record_at rs (holder rs a)))) (closed (position rs ps n a) (n - 1 - position rs ps n a) ps) (n - 1)
  removed a e = record {
    same = length-set rs h u ∙ p.same ∙ sym (close_length k (n - 1 - k) ps);
    some = subst (λ (m : ℕ). 1 ≤ m) (sym (length-set rs h u)) p.some;
    few = subst (λ (m : ℕ). m ≤ largest) (sym (length-set rs h u)) p.few;
    counted = subst (λ (m : ℕ). n - 1 ≤ m) (sym (length-set rs h u)) (omega (arith, p.counted));
    live = omega (arith, less_count rs h u (holds_parts (record_at rs h) a (in_holds rs a e)).0 refl, p.live);
    ordered = ordered;
  }
    where
      h : ℕ
      h = holder rs a

      u : Record
      u = unmarked (record_at rs h)

      k : ℕ
      k = position rs ps n a

      there : ((ltb k n && holds (record_at rs (place_at ps k)) a) ≡ true) × (place_at ps k ≡ h)
      there = in-there rs ps n a p e

      within : k < n
      within = ltb-true k n (both (ltb k n) (holds (record_at rs (place_at ps k)) a) there.0).0

      last : k + (n - 1 - k) ≡ n - 1
      last = omega (arith, within)

      count : suc (n - 1) ≡ n
      count = omega (arith, within)

      list : take (n - 1) (closed k (n - 1 - k) ps) ≡ delete k (take n ps)
      list =
          subst (λ (z : ℕ). take (n - 1) (closed k (n - 1 - k) ps) ≡ delete k (take z ps)) count
          (subst (λ (z : ℕ). take z (closed k (n - 1 - k) ps) ≡ delete k (take (suc z) ps)) last (close_take k (n - 1 - k) ps (omega (arith, within, long))))

      ordered : in_order (set rs h u) 0 (take (n - 1) (closed k (n - 1 - k) ps)) ≡ true
      ordered =
          ap (in_order (set rs h u) 0) list
          ∙ subst (λ (z : ℕ). in_order (set rs z u) 0 (delete k (take n ps)) ≡ true) (get_or-take n ps k 0 within ∙ there.1)
          (order_delete rs 0 k (take n ps) u (subst (λ (m : ℕ). k < m) (sym (length-take-le n ps long)) within) p.ordered)

  pub added : (a : ℕ) (r : Record) → is_in rs a ≡ false → has_room rs ≡ true → is_word a ≡ true → r.live ≡ true → r.address ≡ a
      → Parts (set rs (free_place rs) r) (opened (position rs ps n a) (n + 1 - position rs ps n a) (free_place rs) ps) (n + 1)
  added a r e g w l ea = record {
    same = length-set rs f r ∙ p.same ∙ sym (open-length k (n + 1 - k) f ps);
    some = subst (λ (m : ℕ). 1 ≤ m) (sym (length-set rs f r)) p.some;
    few = subst (λ (m : ℕ). m ≤ largest) (sym (length-set rs f r)) p.few;
    counted = subst (λ (m : ℕ). n + 1 ≤ m) (sym (length-set rs f r)) (omega (arith, fewer));
    live = more_count rs f r within (free_is rs within) l ∙ ap (◌+ 1) p.live;
    ordered = ordered;
  }
    where
      f : ℕ
      f = free_place rs

      k : ℕ
      k = position rs ps n a

      within : free_place rs < length rs
      within = ltb-true (free_place rs) (length rs) g

      fewer : n < length rs
      fewer = subst (λ (m : ℕ). m < length rs) p.live (free_fewer rs within)

      low : k ≤ n
      low = (position-le rs ps n a (of_parts rs ps n p)).0

      moved : suc (n - k) ≡ n + 1 - k
      moved = omega (arith, low)

      all : k + (n - k) ≡ n
      all = omega (arith, low)

      list : take (n + 1) (opened k (n + 1 - k) f ps) ≡ insert k f (take n ps)
      list =
          let fits : k + (n - k) < length ps = omega (arith, all, fewer, p.same) in
          let s : suc n ≡ n + 1 = omega arith in
          subst (λ (z : ℕ). take z (opened k (n + 1 - k) f ps) ≡ insert k f (take n ps)) s
          (subst (λ (z : ℕ). take (suc z) (opened k (n + 1 - k) f ps) ≡ insert k f (take z ps)) all
          (subst (λ (z : ℕ). take (suc (k + (n - k))) (opened k z f ps) ≡ insert k f (take (k + (n - k)) ps)) moved (open-take k (n - k) f ps fits)))

      ordered : in_order (set rs f r) 0 (take (n + 1) (opened k (n + 1 - k) f ps)) ≡ true
      ordered =
          ap (in_order (set rs f r) 0) list ∙ order_insert rs 0 a f (take n ps) r within (free_is rs within) l ea w (omega arith) (λ q x. never (holds_in rs a q x) e) p.ordered

  pub renewed : (a : ℕ) (r : Record) → is_in rs a ≡ true → r.live ≡ true → r.address ≡ a → Parts (set rs (holder rs a) r) ps n
  renewed a r e l ea = record {
    same = length-set rs h r ∙ p.same;
    some = subst (λ (m : ℕ). 1 ≤ m) (sym (length-set rs h r)) p.some;
    few = subst (λ (m : ℕ). m ≤ largest) (sym (length-set rs h r)) p.few;
    counted = subst (λ (m : ℕ). n ≤ m) (sym (length-set rs h r)) p.counted;
    live = same_count rs h r held.0 l ∙ p.live;
    ordered = order_same rs (set rs h r) 0 (take n ps) (λ q. alike q (eqb q h) refl) p.ordered;
  }
    where
      h : ℕ
      h = holder rs a

      held : ((record_at rs (holder rs a)).live ≡ true) × (address_at rs (holder rs a) ≡ a)
      held = holds_parts (record_at rs (holder rs a)) a (in_holds rs a e)

      alike : (q : ℕ) (b : Bool) → eqb q h ≡ b → ((record_at (set rs h r) q).live ≡ (record_at rs q).live) × (address_at (set rs h r) q ≡ address_at rs q)
      alike q true t =
          let s : q ≡ h = eqb-true q h t in
          let x : record_at (set rs h r) q ≡ r = ap (λ (z : ℕ). record_at (set rs h r) z) s ∙ get_or-set_same rs h r blank (live_within rs h held.0) in
          (ap (λ (z : Record). z.live) x ∙ l ∙ sym (ap (λ (z : ℕ). (record_at rs z).live) s ∙ held.0), ap (λ (z : Record). z.address) x ∙ ea ∙ sym (ap (λ (z : ℕ). address_at rs z) s ∙ held.1))
      alike q false t = let x = get_or-set_other rs h q r blank (eqb-false q h t) in (ap (λ (z : Record). z.live) x, ap (λ (z : Record). z.address) x)

-- ---- clear

pub unmarked-length : (rs : List Record) → length (unmarked_all rs) ≡ length rs
unmarked-length [] = refl
unmarked-length (r ∷ rs) = ap suc (unmarked-length rs)

unmarked_live : (rs : List Record) → live_in (unmarked_all rs) ≡ 0
unfolding live_in
unmarked_live [] = refl
unmarked_live (r ∷ rs) = zero-add (live_in (unmarked_all rs)) ∙ unmarked_live rs

pub cleared : (rs : List Record) (ps : List ℕ) → length rs ≡ length ps → 1 ≤ length rs → length rs ≤ largest → Parts (unmarked_all rs) ps 0
unfolding in_order
cleared rs ps e s f = record {
  same = unmarked-length rs ∙ e;
  some = subst (λ (m : ℕ). 1 ≤ m) (sym (unmarked-length rs)) s;
  few = subst (λ (m : ℕ). m ≤ largest) (sym (unmarked-length rs)) f;
  counted = omega arith;
  live = unmarked_live rs;
  ordered = refl;
}

-- ---- the calls

remove-kept : (w t i : Bool) (rs rs' : List Record) (ps ps' : List ℕ) (n n' : ℕ) → t ≡ true → Parts rs ps n → (i ≡ true → Parts rs' ps' n')
    → Parts (kept (unless w 3 (unless t 8 (cond i (answer 3 []) absent))) rs (cond i rs' rs)) (kept (unless w 3 (unless t 8 (cond i (answer 3 []) absent))) ps (cond i ps' ps)) (kept (unless w 3 (unless t 8 (cond i (answer 3 []) absent))) n (cond i n' n))
remove-kept true true true rs rs' ps ps' n n' e p f = f refl
remove-kept true true false rs rs' ps ps' n n' e p f = p
remove-kept true false i rs rs' ps ps' n n' e p f = absurd (never e refl)
remove-kept false t i rs rs' ps ps' n n' e p f = p

add_kept : (w t i g b : Bool) (rs : List Record) (ps ps' : List ℕ) (n h f : ℕ) (r : Record) → t ≡ true → Parts rs ps n → (i ≡ true → Parts (set rs h r) ps n) → (w ≡ true → i ≡ false → g ≡ true → Parts (set rs f r) ps' (n + 1))
    → Parts (kept (add_by w t i g b) rs (cond (not i || b) (set rs (cond i h f) r) rs)) (kept (add_by w t i g b) ps (cond i ps ps')) (kept (add_by w t i g b) n (cond i n (n + 1)))
add_kept true true true g true rs ps ps' n h f r e p x y = x refl
add_kept true true true g false rs ps ps' n h f r e p x y = p
add_kept true true false true b rs ps ps' n h f r e p x y = y refl refl refl
add_kept true true false false b rs ps ps' n h f r e p x y = p
add_kept true false i g b rs ps ps' n h f r e p x y = absurd (never e refl)
add_kept false t i g b rs ps ps' n h f r e p x y = p

clear_kept : (b : Bool) (rs rs' : List Record) (ps : List ℕ) (n : ℕ) → b ≡ true → Parts rs' ps 0 → Parts (kept (unless b 8 done) rs rs') ps (kept (unless b 8 done) n 0)
clear_kept true rs rs' ps n e p = p
clear_kept false rs rs' ps n e p = absurd (never e refl)

module _ (t : Table) where
  pub cleared-parts : RightLengths t → Parts (clear_records t.records t.places) t.places (clear_count t.records t.places t.count)
  unfolding clear_records clear_count clear_outcome
  cleared-parts h =
      clear_kept (right_lengths (length t.records) (length t.places)) t.records (unmarked_all t.records) t.places t.count
      (lengths_right (length t.records) (length t.places) h.0 h.1.0 h.1.1) (cleared t.records t.places h.0 h.1.0 h.1.1)

  pub removed-parts : (a : ℕ) → Parts t.records t.places t.count
      → Parts (remove_records t.records t.places t.count a) (remove_places t.records t.places t.count a) (remove_count t.records t.places t.count a)
  unfolding remove_records remove_places remove_count remove_outcome
  removed-parts a p =
      remove-kept (is_word a) (is_sound t.records t.places t.count) (is_in t.records a) t.records _ t.places _ t.count _ (of_parts t.records t.places t.count p) p
      (removed t.records t.places t.count p a)

  pub added-parts : (s : Sighting) → Parts t.records t.places t.count
      → Parts (add_records t.records t.places t.count s) (add_places t.records t.places t.count s) (add_count t.records t.places t.count s)
  unfolding add_records add_places add_count add_outcome
  added-parts s p =
      add_kept (is_word s.address) (is_sound t.records t.places t.count) (is_in t.records s.address) (has_room t.records) _ t.records t.places _ t.count (holder t.records s.address) (free_place t.records) (record_of s) (of_parts t.records t.places t.count p) p
      (λ e. renewed t.records t.places t.count p s.address (record_of s) e refl refl)
      (λ w e g. added t.records t.places t.count p s.address (record_of s) e g w refl refl)

pub kept-parts : (t : Table) (c : Call) → Parts t.records t.places t.count → Parts (after c t).records (after c t).places (after c t).count
unfolding after
kept-parts t clear p = cleared-parts t (p.same, (p.some, p.few))
kept-parts t (add s) p = added-parts t s p
kept-parts t (remove a) p = removed-parts t a p
kept-parts t (find a) p = p

pub keeps_sound : KeepsSound
unfolding KeepsSound
keeps_sound t c s =
    sound (after c t).records (after c t).places (after c t).count (kept-parts t c (sound-parts t.records t.places t.count s))

pub clear_mends : ClearMends
unfolding ClearMends after
clear_mends t h = sound (clear_records t.records t.places) t.places (clear_count t.records t.places t.count) (cleared-parts t h)
