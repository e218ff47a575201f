-- The search by halving: in a list in order what it asks is true of the first places, up to where an address stands.
use mathlib.Core.Path.{◌≡◌, refl, ap, ◌∙◌}
use mathlib.Core.Bool.{Bool, true, false, ◌&&◌}
use mathlib.Core.List.{List}
use Prim.Native.Nat.{ℕ, zero, suc, ◌≤◌, ◌<◌}
use native.Mathlib.Omega.{arith}
use lib.Dec.{ltb}
use lib.ListN.{length, get_or}
use borrow.Author.Tests.{ltb-true, ltb-false, lt-ltb}
use Rattle.std.specs.List.Sorted.{IsPartitionedBy, IsPartitionPoint}
use Rattle.std.proofs.lemmas.List.{get_or_default}
use Rattle.outcome.proofs.Laws.{never, both}
use Rattle.rollcall_table.specs.declared.Record.{Record}
use Rattle.rollcall_table.specs.Table.{address_at, in_order, below}
use Rattle.rollcall_table.proofs.Along.{below-after, below-before, below-le}
use Rattle.rollcall_table.proofs.Counting.{live_within}
use Rattle.rollcall_table.proofs.Soundness.{order_at, order_up}

-- what the search asks of a place: it lies within, and its record's address is below a
abbrev pub is_low : List Record → ℕ → ℕ → Bool
is_low rs a q = ltb q (length rs) && ltb (address_at rs q) a

module _ (rs : List Record) (a : ℕ) (qs : List ℕ) (e : in_order rs 0 qs ≡ true) where
  -- a place that is listed lies within
  within : (k : ℕ) → k < length qs → ltb (get_or qs k 0) (length rs) ≡ true
  within k h = lt-ltb (get_or qs k 0) (length rs) (live_within rs (get_or qs k 0) (order_at rs 0 qs k e h).0)

  low_below : (k : ℕ) → is_low rs a (get_or qs k 0) ≡ true → address_at rs (get_or qs k 0) < a
  low_below k t = ltb-true _ _ (both (ltb (get_or qs k 0) (length rs)) (ltb (address_at rs (get_or qs k 0)) a) t).1

  below-low : (k : ℕ) → k < length qs → address_at rs (get_or qs k 0) < a → is_low rs a (get_or qs k 0) ≡ true
  below-low k h l = ap (λ (b : Bool). b && ltb (address_at rs (get_or qs k 0)) a) (within k h) ∙ lt-ltb _ _ l

  pub searchable : IsPartitionedBy (is_low rs a) qs
  searchable i j d h l t = ap (is_low rs a) (get_or_default qs i d 0 (omega arith)) ∙ by (ltb i j) refl
    where
      high : address_at rs (get_or qs j 0) < a
      high = low_below j (ap (is_low rs a) (get_or_default qs j 0 d l) ∙ t)

      by : (b : Bool) → ltb i j ≡ b → is_low rs a (get_or qs i 0) ≡ true
      by true s = let up : address_at rs (get_or qs i 0) < address_at rs (get_or qs j 0) = order_up rs 0 qs i j e (ltb-true i j s) l in below-low i (omega arith) (omega (arith, up, high))
      by false s = let same : i ≡ j = omega (arith, ltb-false i j s) in ap (λ (k : ℕ). is_low rs a (get_or qs k 0)) same ∙ below-low j l high

  pub search-is : (k : ℕ) → k ≤ length qs → IsPartitionPoint (λ q. is_low rs a q ≡ true) (λ q. is_low rs a q ≡ false) qs k → k ≡ below rs a qs
  search-is k h (first, rest) = let u = up k h first in let d = down (ltb k (length qs)) refl in omega arith
    where
      up : (k : ℕ) → k ≤ length qs → ((i : ℕ) (d : ℕ) → 0 ≤ i → i < k → is_low rs a (get_or qs i d) ≡ true) → k ≤ below rs a qs
      up zero h f = omega arith
      up (suc j) h f = let more : j < below rs a qs = below-after rs a 0 qs j e (omega arith) (low_below j (f j 0 (omega arith) (omega arith))) in omega arith

      down : (b : Bool) → ltb k (length qs) ≡ b → below rs a qs ≤ k
      down false s = let le = below-le rs a qs in omega (arith, ltb-false k (length qs) s)
      down true s = by (ltb (address_at rs (get_or qs k 0)) a) refl
        where
          l : k < length qs
          l = ltb-true k (length qs) s

          by : (b : Bool) → ltb (address_at rs (get_or qs k 0)) a ≡ b → below rs a qs ≤ k
          by true t = absurd (never (below-low k l (ltb-true _ _ t)) (rest k 0 (omega arith) l))
          by false t = below-before rs a qs k (ltb-false _ _ t) l
