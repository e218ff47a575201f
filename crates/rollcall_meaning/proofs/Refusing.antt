-- The rows of the refusals that speak of a roll-call table: each test is failed exactly where the row's condition holds, and a
-- refused call leaves everything.
use mathlib.Core.Path.{◌≡◌, refl, ap}
use mathlib.Core.Bool.{Bool, true, false, ◌&&◌, ◌||◌}
use mathlib.Core.List.{List}
use mathlib.Core.Logic.{◌⊎◌, inl, inr}
use Prim.Native.Nat.{ℕ, ◌<◌}
use native.Mathlib.Omega.{arith}
use lib.Dec.{eqb, leb}
use lib.ListN.{length}
use borrow.Author.Tests.{eqb-true, eqb-false, leb-true, leb-false, ltb-true, ltb-false}
use Rattle.outcome.specs.Outcomes.{Outcome}
use Rattle.outcome.specs.Outcomes.Outcome.{refusal}
use Rattle.outcome.proofs.Laws.{never, both}
use Rattle.rollcall_table.specs.declared.Record.{Record}
use Rattle.rollcall_table.specs.declared.Sighting.{Sighting}
use Rattle.rollcall_table.specs.Table.{largest, record_at, right_lengths, Sound, is_sound, holds, holder, free_place, is_in, has_room}
use Rattle.rollcall_table.proofs.Laws.{in_holds, holds_in, free_is, free_first}
use Rattle.rollcall_plans.specs.Calls.{kept, clear_outcome, clear_count, clear_records, remove_outcome, remove_count, remove_records, remove_places, add_outcome, add_count, add_records, add_places}
use Rattle.rollcall_meaning.specs.Keeping.{CheckedIsSound}
use Rattle.rollcall_meaning.proofs.Sounding.{checked_is_sound}

-- ---- row 8

pub lengths_wrong : (m k : ℕ) → right_lengths m k ≡ false → (m ≡ k → ⊥) ⊎ ((m < 1) ⊎ (largest < m))
lengths_wrong m k e = by (eqb m k) refl (leb 1 m) refl (leb m largest) refl e
  where
    by : (a : Bool) → eqb m k ≡ a → (b : Bool) → leb 1 m ≡ b → (c : Bool) → leb m largest ≡ c → (a && (b && c)) ≡ false → (m ≡ k → ⊥) ⊎ ((m < 1) ⊎ (largest < m))
    by false p b q c r e = inl (eqb-false m k p)
    by true p false q c r e = inr (inl (leb-false 1 m q))
    by true p true q false r e = inr (inr (leb-false m largest r))
    by true p true q true r e = absurd (never refl e)

pub wrong_lengths : (m k : ℕ) → (m ≡ k → ⊥) ⊎ ((m < 1) ⊎ (largest < m)) → right_lengths m k ≡ false
wrong_lengths m k h = by (right_lengths m k) refl h
  where
    by : (t : Bool) → right_lengths m k ≡ t → (m ≡ k → ⊥) ⊎ ((m < 1) ⊎ (largest < m)) → t ≡ false
    by false e h = refl
    by true e h = absurd (no h)
      where
        p : (eqb m k ≡ true) × ((leb 1 m && leb m largest) ≡ true)
        p = both (eqb m k) (leb 1 m && leb m largest) e

        q : (leb 1 m ≡ true) × (leb m largest ≡ true)
        q = both (leb 1 m) (leb m largest) p.1

        no : (m ≡ k → ⊥) ⊎ ((m < 1) ⊎ (largest < m)) → ⊥
        no (inl n) = n (eqb-true m k p.0)
        no (inr (inl n)) = omega (arith, n, leb-true 1 m q.0)
        no (inr (inr n)) = omega (arith, n, leb-true m largest q.1)

pub unsound : (rs : List Record) (ps : List ℕ) (n : ℕ) → is_sound rs ps n ≡ false → Sound rs ps n → ⊥
unfolding CheckedIsSound
unsound rs ps n e s = never ((checked_is_sound rs ps n).1 s) e

pub not_sound : (rs : List Record) (ps : List ℕ) (n : ℕ) → (Sound rs ps n → ⊥) → is_sound rs ps n ≡ false
unfolding CheckedIsSound
not_sound rs ps n h = by (is_sound rs ps n) refl
  where
    by : (t : Bool) → is_sound rs ps n ≡ t → t ≡ false
    by false e = refl
    by true e = absurd (h ((checked_is_sound rs ps n).0 e))

-- ---- row 9

pub no_place : (rs : List Record) (a : ℕ) → (is_in rs a || has_room rs) ≡ false → ((i : ℕ) → holds (record_at rs i) a ≡ true → ⊥) × ((i : ℕ) → i < length rs → (record_at rs i).live ≡ true)
no_place rs a e = by (is_in rs a) refl (has_room rs) refl e
  where
    by : (x : Bool) → is_in rs a ≡ x → (y : Bool) → has_room rs ≡ y → (x || y) ≡ false → ((i : ℕ) → holds (record_at rs i) a ≡ true → ⊥) × ((i : ℕ) → i < length rs → (record_at rs i).live ≡ true)
    by true p y q e = absurd (never refl e)
    by false p true q e = absurd (never refl e)
    by false p false q e = ((λ i x. never (holds_in rs a i x) p), λ i l. free_first rs i (omega (arith, l, ltb-false (free_place rs) (length rs) q)))

pub place_none : (rs : List Record) (a : ℕ) → ((i : ℕ) → holds (record_at rs i) a ≡ true → ⊥) × ((i : ℕ) → i < length rs → (record_at rs i).live ≡ true) → (is_in rs a || has_room rs) ≡ false
place_none rs a h = by (is_in rs a) refl (has_room rs) refl
  where
    by : (x : Bool) → is_in rs a ≡ x → (y : Bool) → has_room rs ≡ y → (x || y) ≡ false
    by true p y q = absurd (h.0 (holder rs a) (in_holds rs a p))
    by false p true q = let l = ltb-true (free_place rs) (length rs) q in absurd (never (h.1 (free_place rs) l) (free_is rs l))
    by false p false q = refl

-- ---- a refused call leaves everything

left : {X : Type 0} (o : Outcome) (k : ℕ) (x y : X) → o ≡ refusal k → kept o x y ≡ x
left o k x y e = ap (λ (p : Outcome). kept p x y) e

pub clear_leaves : (rs : List Record) (ps : List ℕ) (n k : ℕ) → clear_outcome rs ps ≡ refusal k → (clear_records rs ps ≡ rs) × (clear_count rs ps n ≡ n)
unfolding clear_records clear_count
clear_leaves rs ps n k e = (left (clear_outcome rs ps) k rs _ e, left (clear_outcome rs ps) k n _ e)

pub add_leaves : (rs : List Record) (ps : List ℕ) (n : ℕ) (s : Sighting) (k : ℕ) → add_outcome rs ps n s ≡ refusal k → (add_records rs ps n s ≡ rs) × ((add_places rs ps n s ≡ ps) × (add_count rs ps n s ≡ n))
unfolding add_records add_places add_count
add_leaves rs ps n s k e = (left (add_outcome rs ps n s) k rs _ e, (left (add_outcome rs ps n s) k ps _ e, left (add_outcome rs ps n s) k n _ e))

pub remove_leaves : (rs : List Record) (ps : List ℕ) (n a k : ℕ) → remove_outcome rs ps n a ≡ refusal k → (remove_records rs ps n a ≡ rs) × ((remove_places rs ps n a ≡ ps) × (remove_count rs ps n a ≡ n))
unfolding remove_records remove_places remove_count
remove_leaves rs ps n a k e = (left (remove_outcome rs ps n a) k rs _ e, (left (remove_outcome rs ps n a) k ps _ e, left (remove_outcome rs ps n a) k n _ e))
