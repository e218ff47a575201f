-- Up to five hit bits of a message are noticed.
use mathlib.Core.Path.{◌≡◌, refl}
use mathlib.Core.Bool.{Bool, false, not, ◌&&◌}
use Prim.Native.Nat.{ℕ, zero, suc, ◌+◌, ◌%◌, ◌^◌, ◌<◌, ◌≤◌}
use native.Mathlib.Omega.{arith}
use lib.Dec.{T, eqb}
use lib.Count.{ones}
use Rattle.division.specs.Division.{remainder}
use Rattle.division.proofs.Laws.{reduce_by, double}
use Rattle.notices.proofs.Odd.{even_of_zero}
use Rattle.notices.proofs.Walk.{powers, last, walk, both}
use Rattle.notices.proofs.Tree.{Tree, has_sum, put, put_each}
use Rattle.notices.proofs.Tree.Tree.{none, full, node}
use Rattle.notices.proofs.Sums.{Noticed, two_tested, tree_tested}

two_test : T (walk (λ a b. not (eqb a b)) 0 (powers 111 2) 1)
unfolding reduce_by double powers last walk
two_test = tt

pub two_noticed : Noticed 112 2
two_noticed = two_tested 111 two_test

-- Every sum of k + 1 of the first n + 1 powers is in the tree, and no sum of 1 and j + 1 of the others. The clauses have the
-- tree computed once.
unfoldable pub passes : ℕ → ℕ → ℕ → Tree → Bool
passes n k j none = false
passes n k j full = false
passes n k j (node l r) =
    walk (has_sum (node l r)) k (powers (suc n) 1) 0 && walk (λ a b. not (has_sum (node l r) a b)) j (powers n 2) 1

pub passed : (n k j : ℕ) (t : Tree) → T (passes n k j t) → Noticed (suc n) (suc (suc j + suc k))
unfolding passes
passed n k j none t = absurd t
passed n k j full t = absurd t
passed n k j (node l r) t =
    let b = both (walk (has_sum (node l r)) k (powers (suc n) 1) 0) (walk (λ a b. not (has_sum (node l r) a b)) j (powers n 2) 1) t in
    tree_tested n k j (node l r) b.0 b.1

four_test : T (passes 111 0 1 (put_each 0 (powers 112 1) none))
unfolding reduce_by double powers last walk has_sum put put_each passes
four_test = tt

pub four_noticed : Noticed 112 4
four_noticed = passed 111 0 1 (put_each 0 (powers 112 1) none) four_test

pub five_noticed : (d : ℕ) → d < 2 ^ 112 → 0 < ones d → ones d ≤ 5 → remainder d ≡ 0 → ⊥
five_noticed d h l u e = pick (ones d) refl l u (even_of_zero d e)
  where
    pick : (w : ℕ) → ones d ≡ w → 0 < w → w ≤ 5 → w % 2 ≡ 0 → ⊥
    pick zero o l u v = omega arith
    pick (suc zero) o l u v = omega arith
    pick (suc (suc zero)) o l u v = two_noticed d h o e
    pick (suc (suc (suc zero))) o l u v = omega arith
    pick (suc (suc (suc (suc zero)))) o l u v = four_noticed d h o e
    pick (suc (suc (suc (suc (suc zero))))) o l u v = omega arith
    pick (suc (suc (suc (suc (suc (suc w)))))) o l u v = omega arith
