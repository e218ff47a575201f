-- The spot that the code makes of what the list names is the spot of the address; and what the check says of the call that it was made for.
use mathlib.Core.Path.{◌≡◌, refl, sym, ap, ◌∙◌, subst}
use mathlib.Core.Bool.{Bool, true, false, cond, ◌&&◌}
use mathlib.Core.List.{List}
use Prim.Native.Nat.{ℕ, ◌≤◌}
use lib.Dec.{ltb}
use lib.ListN.{length, take}
use Rattle.std.specs.Prelude.{Option, Some, None}
use Rattle.outcome.specs.Outcomes.{Outcome, done, unless}
use Rattle.outcome.proofs.Laws.{never, both, refusal_is_no_answer}
use Rattle.message.specs.Message.{is_word}
use Rattle.rollcall_table.specs.declared.Record.{Record}
use Rattle.rollcall_table.specs.Table.{record_at, place_at, in_order, is_sound, holds, holder, is_in, position}
use Rattle.rollcall_table.specs.Checks.{verdict_of}
use Rattle.rollcall_table.proofs.Laws.{Parts, parts, in-there, in_holds, holds_in}
use Rattle.rollcall_plans.specs.declared.Placed.{Placed}
use Rattle.rollcall_plans.specs.Calls.{checked}
use Rattle.rollcall_plans.specs.Plans.{placed_at, listed_at, held_by, spot_by, spot_of}

module _ (rs : List Record) (ps : List ℕ) (n a : ℕ) (p : Parts rs ps n) where
  held-there : held_by (listed_at rs ps n (position rs ps n a)) a ≡ cond (is_in rs a) (Some (placed_at rs (holder rs a))) None
  held-there = by (is_in rs a) refl
    where
      q : ℕ
      q = place_at ps (position rs ps n a)

      none : (t h : Bool) → is_in rs a ≡ false → holds (record_at rs q) a ≡ h → held_by (cond t (Some (placed_at rs q)) None) a ≡ None
      none false h e x = refl
      none true true e x = absurd (never (holds_in rs a q x) e)
      none true false e x = ap (λ (t : Bool). cond t (Some (placed_at rs q)) None) x

      by : (c : Bool) → is_in rs a ≡ c → held_by (listed_at rs ps n (position rs ps n a)) a ≡ cond c (Some (placed_at rs (holder rs a))) None
      by true e =
          let f = in-there rs ps n a p e in
          let g = both (ltb (position rs ps n a) n) (holds (record_at rs q) a) f.0 in
          ap (λ (t : Bool). held_by (cond (t && ltb q (length rs)) (Some (placed_at rs q)) None) a) g.0
          ∙ ap (λ (k : ℕ). held_by (cond (ltb k (length rs)) (Some (placed_at rs k)) None) a) f.1
          ∙ ap (λ (t : Bool). held_by (cond t (Some (placed_at rs (holder rs a))) None) a) e
          ∙ ap (λ (t : Bool). cond t (Some (placed_at rs (holder rs a))) None) (in_holds rs a e)
      by false e = none (ltb (position rs ps n a) n && ltb q (length rs)) (holds (record_at rs q) a) e refl

pub spot_there : (rs : List Record) (ps : List ℕ) (n a k : ℕ) (l : Option Placed) → is_sound rs ps n ≡ true → k ≡ position rs ps n a → l ≡ listed_at rs ps n k
    → spot_by k l a ≡ spot_of rs ps n a
unfolding spot_of
spot_there rs ps n a k l e ek el =
    ap (λ (z : Option Placed). spot_by k z a) el ∙ ap (λ (z : ℕ). spot_by z (listed_at rs ps n z) a) ek
    ∙ ap (λ (z : Option Placed). record { at = position rs ps n a; held = z }) (held-there rs ps n a (parts rs ps n e))

-- ---- rows 3 and 8

pub check_passed : (t : Bool) (a : ℕ) → done ≡ verdict_of t a → (is_word a ≡ true) × (t ≡ true)
check_passed t a e = by (is_word a) t e
  where
    by : (w t : Bool) → done ≡ unless w 3 (unless t 8 done) → (w ≡ true) × (t ≡ true)
    by true true e = (refl, refl)
    by true false e = absurd (refusal_is_no_answer (sym e))
    by false t e = absurd (refusal_is_no_answer (sym e))

-- what the check says of a table that passed it
pub check_passes : (rs : List Record) (ps : List ℕ) (n a : ℕ) → done ≡ verdict_of (is_sound rs ps n) a
    → (is_word a ≡ true) × ((is_sound rs ps n ≡ true) × ((n ≤ length ps) × (in_order rs 0 (take n ps) ≡ true)))
check_passes rs ps n a e =
    let c = check_passed (is_sound rs ps n) a e in
    let p = parts rs ps n c.1 in
    (c.0, (c.1, (subst (λ (k : ℕ). n ≤ k) p.same p.counted, p.ordered)))

-- what the search for an address needs
pub ruleset locating = (check_passes, spot_there)

pub checked_is : (rs : List Record) (ps : List ℕ) (n a : ℕ) (o : Outcome) → is_word a ≡ true → is_sound rs ps n ≡ true → checked rs ps n a o ≡ o
checked_is rs ps n a o w t = ap (λ (b : Bool). unless b 3 (unless (is_sound rs ps n) 8 o)) w ∙ ap (λ (b : Bool). unless b 8 o) t
