-- Up to seven hit bits of a message of 56 bits are noticed.
use mathlib.Core.Path.{◌≡◌}
use mathlib.Core.List.{List, [], ◌∷◌}
use mathlib.Core.Bool.{Bool, true, false, not, ◌&&◌}
use Prim.Native.Nat.{ℕ, zero, suc, ◌^◌, ◌<◌, ◌≤◌}
use native.Mathlib.Omega.{arith}
use lib.Bits.{bit_xor}
use lib.Dec.{T, lit≤}
use lib.Pow.{pow_mono}
use native.Mathlib.Nat.{lt_of_lt_of_le}
use native.Mathlib.Decide.{dec_le}
use lib.Count.{ones}
use Rattle.division.specs.Division.{remainder}
use Rattle.division.proofs.Laws.{reduce_by, double}
use Rattle.notices.proofs.Odd.{even_of_zero}
use Rattle.notices.proofs.Walk.{powers, last, walk, both, pair}
use Rattle.notices.proofs.Tree.{Tree, has_sum, put, put_each, put_pairs}
use Rattle.notices.proofs.Tree.Tree.{none, full, node}
use Rattle.notices.proofs.Sums.{Noticed, tree_tested}
use Rattle.notices.proofs.Four.{five_noticed}

-- The test goes over the 26,235 sums of 1 and three powers; it is made in parts, by the lowest of the three, since what a check
-- computes stays in memory to the end of its declaration.
unfoldable pub rest : ℕ → List ℕ → List ℕ
rest zero ps = ps
rest (suc n) [] = []
rest (suc n) (p ∷ ps) = rest n ps

module _ (f : ℕ → ℕ → Bool) where
  -- the first n of the list as the first power
  unfoldable pub part : ℕ → ℕ → List ℕ → ℕ → Bool
  part zero k ps r = true
  part (suc n) k [] r = true
  part (suc n) k (p ∷ ps) r = walk f k ps (bit_xor r p) && part n k ps r

  joined : (n k : ℕ) (ps : List ℕ) (r : ℕ) → T (part n k ps r) → T (walk f (suc k) (rest n ps) r) → T (walk f (suc k) ps r)
  unfolding part rest walk
  joined zero k ps r a b = b
  joined (suc n) k [] r a b = tt
  joined (suc n) k (p ∷ ps) r a b =
      let c = both (walk f k ps (bit_xor r p)) (part n k ps r) a in
      pair (walk f k ps (bit_xor r p)) (walk f (suc k) ps r) c.0 (joined n k ps r c.1 b)

-- the tree is computed once
unfoldable pub on : Tree → (Tree → Bool) → Bool
on none g = false
on full g = false
on (node l r) g = g (node l r)

on_is : (t : Tree) (g : Tree → Bool) → T (on t g) → T (g t)
unfolding on
on_is none g t = absurd t
on_is full g t = absurd t
on_is (node l r) g t = t

pairs : Tree
pairs = put_pairs (powers 56 1) none

abbrev missing : Tree → ℕ → ℕ → Bool
missing t a b = not (has_sum t a b)

all_test : T (on pairs (λ t. walk (has_sum t) 1 (powers 56 1) 0))
unfolding reduce_by double powers last walk has_sum put put_each put_pairs on pairs
all_test = tt

test_1 : T (on pairs (λ t. part (missing t) 4 1 (powers 55 2) 1))
unfolding reduce_by double powers last walk has_sum put put_each put_pairs on pairs part rest
test_1 = tt

test_2 : T (on pairs (λ t. part (missing t) 4 1 (rest 4 (powers 55 2)) 1))
unfolding reduce_by double powers last walk has_sum put put_each put_pairs on pairs part rest
test_2 = tt

test_3 : T (on pairs (λ t. part (missing t) 5 1 (rest 4 (rest 4 (powers 55 2))) 1))
unfolding reduce_by double powers last walk has_sum put put_each put_pairs on pairs part rest
test_3 = tt

test_4 : T (on pairs (λ t. part (missing t) 7 1 (rest 5 (rest 4 (rest 4 (powers 55 2)))) 1))
unfolding reduce_by double powers last walk has_sum put put_each put_pairs on pairs part rest
test_4 = tt

test_5 : T (on pairs (λ t. walk (missing t) 2 (rest 7 (rest 5 (rest 4 (rest 4 (powers 55 2))))) 1))
unfolding reduce_by double powers last walk has_sum put put_each put_pairs on pairs part rest
test_5 = tt

none_test : T (walk (missing pairs) 2 (powers 55 2) 1)
none_test =
    joined (missing pairs) 4 1 (powers 55 2) 1 (on_is pairs (λ t. part (missing t) 4 1 (powers 55 2) 1) test_1) (
    joined (missing pairs) 4 1 (rest 4 (powers 55 2)) 1 (on_is pairs (λ t. part (missing t) 4 1 (rest 4 (powers 55 2)) 1) test_2) (
    joined (missing pairs) 5 1 (rest 4 (rest 4 (powers 55 2))) 1 (on_is pairs (λ t. part (missing t) 5 1 (rest 4 (rest 4 (powers 55 2))) 1) test_3) (
    joined (missing pairs) 7 1 (rest 5 (rest 4 (rest 4 (powers 55 2)))) 1 (on_is pairs (λ t. part (missing t) 7 1 (rest 5 (rest 4 (rest 4 (powers 55 2)))) 1) test_4) (
    on_is pairs (λ t. walk (missing t) 2 (rest 7 (rest 5 (rest 4 (rest 4 (powers 55 2))))) 1) test_5))))

pub six_noticed : Noticed 56 6
six_noticed = tree_tested 55 1 2 pairs (on_is pairs (λ t. walk (has_sum t) 1 (powers 56 1) 0) all_test) none_test

pub seven_noticed : (d : ℕ) → d < 2 ^ 56 → 0 < ones d → ones d ≤ 7 → remainder d ≡ 0 → ⊥
seven_noticed d h l u e = pick (dec_le (ones d) 5)
  where
    pick : Dec (ones d ≤ 5) → ⊥
    pick (yes few) = five_noticed d (lt_of_lt_of_le h (pow_mono {i = 56} {j = 112} (lit≤ tt))) l few e
    pick (no many) = six_noticed d h (omega (arith, even_of_zero d e)) e
