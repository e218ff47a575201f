-- Whose record it is: the place of an address's live record, which the search by halving finds in a sound table.
use mathlib.Core.Path.{◌≡◌, refl, sym, ap, ◌∙◌, subst}
use mathlib.Core.Bool.{Bool, true, false, cond, ◌&&◌}
use mathlib.Core.List.{List, [], ◌∷◌}
use Prim.Native.Nat.{ℕ, zero, suc, ◌≤◌, ◌<◌}
use native.Mathlib.Nat.{not-suc-le-zero, le_of_suc-le-suc}
use native.Mathlib.Omega.{arith}
use lib.Dec.{eqb, ltb}
use lib.ListN.{length, take}
use lib.Seq.{get_or-take, length-take-le}
use borrow.Author.Tests.{eqb-true, eq-eqb, ltb-true, ltb-false, lt-ltb}
use Rattle.outcome.proofs.Laws.{never, both}
use Rattle.rollcall_table.specs.declared.Record.{Record}
use Rattle.rollcall_table.specs.Table.{record_at, place_at, address_at, Sound, holds, holder, is_in, position}
use Rattle.rollcall_table.proofs.Along.{below-after, below-before}
use Rattle.rollcall_table.proofs.Counting.{live_within}
use Rattle.rollcall_table.proofs.Soundness.{Parts, sound}

-- ---- the place of an address

pub holds_parts : (r : Record) (a : ℕ) → holds r a ≡ true → (r.live ≡ true) × (r.address ≡ a)
holds_parts r a e = let p = both r.live (eqb r.address a) e in (p.0, eqb-true r.address a p.1)

pub is_held_lem : (r : Record) (a : ℕ) → r.live ≡ true → r.address ≡ a → holds r a ≡ true
is_held_lem r a l e = ap (λ (b : Bool). b && eqb r.address a) l ∙ eq-eqb r.address a e

holder-at : (rs : List Record) (a : ℕ) → holder rs a < length rs → holds (record_at rs (holder rs a)) a ≡ true
unfolding holder
holder-at [] a h = absurd (not-suc-le-zero h)
holder-at (r ∷ rs) a h = by (holds r a) refl (holder-at rs a) h
  where
    by : (b : Bool) → holds r a ≡ b → (holder rs a < length rs → holds (record_at rs (holder rs a)) a ≡ true) → cond b 0 (suc (holder rs a)) < suc (length rs) → holds (record_at (r ∷ rs) (cond b 0 (suc (holder rs a)))) a ≡ true
    by true e rest h = e
    by false e rest h = rest (le_of_suc-le-suc h)

pub holder-le : (rs : List Record) (a : ℕ) → holder rs a ≤ length rs
unfolding holder
holder-le [] a = omega arith
holder-le (r ∷ rs) a = by (holds r a) (holder-le rs a)
  where
    by : (b : Bool) → holder rs a ≤ length rs → cond b 0 (suc (holder rs a)) ≤ suc (length rs)
    by true h = omega arith
    by false h = omega arith

holder-first : (rs : List Record) (a i : ℕ) → holds (record_at rs i) a ≡ true → holder rs a ≤ i
unfolding holder
holder-first [] a i e = absurd (never e refl)
holder-first (r ∷ rs) a zero e = subst (λ (b : Bool). cond b 0 (suc (holder rs a)) ≤ 0) (sym e) (omega arith)
holder-first (r ∷ rs) a (suc i) e = by (holds r a) (holder-first rs a i e)
  where
    by : (b : Bool) → holder rs a ≤ i → cond b 0 (suc (holder rs a)) ≤ suc i
    by true h = omega arith
    by false h = omega arith

pub in_holds : (rs : List Record) (a : ℕ) → is_in rs a ≡ true → holds (record_at rs (holder rs a)) a ≡ true
in_holds rs a e = holder-at rs a (ltb-true (holder rs a) (length rs) e)

pub holds_in : (rs : List Record) (a i : ℕ) → holds (record_at rs i) a ≡ true → is_in rs a ≡ true
holds_in rs a i e = lt-ltb (holder rs a) (length rs) (omega (arith, holder-first rs a i e, live_within rs i (holds_parts (record_at rs i) a e).0))

pub not_in : (rs : List Record) (a : ℕ) → is_in rs a ≡ false → holder rs a ≡ length rs
not_in rs a e = omega (arith, holder-le rs a, ltb-false (holder rs a) (length rs) e)

-- ---- no address is live twice

pub alone : (rs : List Record) (ps : List ℕ) (n : ℕ) → Sound rs ps n → (i j a : ℕ) → holds (record_at rs i) a ≡ true → holds (record_at rs j) a ≡ true → i ≡ j
alone rs ps n s i j a x y =
    let p = holds_parts (record_at rs i) a x in
    let q = holds_parts (record_at rs j) a y in
    by (s.listed i p.0) (s.listed j q.0) p.1 q.1
  where
    by : (k : ℕ) × ((k < n) × (place_at ps k ≡ i)) → (l : ℕ) × ((l < n) × (place_at ps l ≡ j)) → address_at rs i ≡ a → address_at rs j ≡ a → i ≡ j
    by (k, (h, e)) (l, (m, f)) x y = sym e ∙ ap (λ (z : ℕ). place_at ps z) (same (ltb k l) refl (ltb l k) refl) ∙ f
      where
        at-k : address_at rs (place_at ps k) ≡ a
        at-k = ap (λ (z : ℕ). address_at rs z) e ∙ x

        at-l : address_at rs (place_at ps l) ≡ a
        at-l = ap (λ (z : ℕ). address_at rs z) f ∙ y

        same : (b : Bool) → ltb k l ≡ b → (c : Bool) → ltb l k ≡ c → k ≡ l
        same true t c u = absurd (omega (arith, at-k, at-l, s.ascending k l (ltb-true k l t) m))
        same false t true u = absurd (omega (arith, at-k, at-l, s.ascending l k (ltb-true l k u) h))
        same false t false u = omega (arith, ltb-false k l t, ltb-false l k u)

-- ---- the search finds it

module _ (rs : List Record) (ps : List ℕ) (n a : ℕ) (p : Parts rs ps n) where
  found-sound : Sound rs ps n
  found-sound = sound rs ps n p

  long : n ≤ length ps
  long = subst (λ (k : ℕ). n ≤ k) p.same p.counted

  -- a live address stands in the list where the search looks
  position-is : (k : ℕ) → k < n → address_at rs (place_at ps k) ≡ a → position rs ps n a ≡ k
  position-is k h e = by (ltb (position rs ps n a) k) refl
    where
      within : (j : ℕ) → j < n → j < length (take n ps)
      within j l = subst (λ (m : ℕ). j < m) (sym (length-take-le n ps long)) l

      low : position rs ps n a ≤ k
      low = below-before rs a (take n ps) k (omega (arith, e, ap (λ (z : ℕ). address_at rs z) (get_or-take n ps k 0 h))) (within k h)

      by : (b : Bool) → ltb (position rs ps n a) k ≡ b → position rs ps n a ≡ k
      by true t =
          let l : position rs ps n a < k = ltb-true _ _ t in
          let m : position rs ps n a < n = omega arith in
          let up = found-sound.ascending (position rs ps n a) k l h in
          let same = ap (λ (z : ℕ). address_at rs z) (get_or-take n ps (position rs ps n a) 0 m) in
          absurd (omega (arith, below-after rs a 0 (take n ps) (position rs ps n a) p.ordered (within (position rs ps n a) m) (omega (arith, same, up, e))))
      by false t = omega (arith, low, ltb-false (position rs ps n a) k t)

  -- so what the code asks of the record listed there is true exactly of a live address
  pub in-there : is_in rs a ≡ true → (ltb (position rs ps n a) n && holds (record_at rs (place_at ps (position rs ps n a))) a ≡ true) × (place_at ps (position rs ps n a) ≡ holder rs a)
  in-there e = by (found-sound.listed (holder rs a) h.0)
    where
      h : ((record_at rs (holder rs a)).live ≡ true) × (address_at rs (holder rs a) ≡ a)
      h = holds_parts (record_at rs (holder rs a)) a (in_holds rs a e)

      by : (k : ℕ) × ((k < n) × (place_at ps k ≡ holder rs a)) → (ltb (position rs ps n a) n && holds (record_at rs (place_at ps (position rs ps n a))) a ≡ true) × (place_at ps (position rs ps n a) ≡ holder rs a)
      by (k, (l, f)) =
          let at : position rs ps n a ≡ k = position-is k l (ap (λ (z : ℕ). address_at rs z) f ∙ h.1) in
          let q : place_at ps (position rs ps n a) ≡ holder rs a = ap (λ (z : ℕ). place_at ps z) at ∙ f in
          let m : position rs ps n a < n = omega arith in
          (ap (λ (b : Bool). b && holds (record_at rs (place_at ps (position rs ps n a))) a) (lt-ltb _ _ m) ∙ ap (λ (z : ℕ). holds (record_at rs z) a) q ∙ in_holds rs a e, q)
