-- Sets of remainders as binary trees, by the coefficients from the lowest on. Nothing is proved of `put`: that a tree holds
-- what it should is one computed test.
use mathlib.Core.Path.{◌≡◌, refl, sym, ap₂, ◌∙◌}
use mathlib.Core.List.{List, [], ◌∷◌}
use mathlib.Core.Bool.{Bool, true, false}
use Prim.Native.Nat.{ℕ, zero, suc, ◌+◌, ◌/◌, ◌%◌}
use native.Mathlib.Omega.{arith}
use lib.Bits.{bit_xor, xor_shr, xor_add_and}

pub data Tree : Type 0 where
  none : Tree
  full : Tree
  node : Tree → Tree → Tree

unfoldable pub has : Tree → ℕ → Bool
has none n = false
has full n = true
has (node l r) n = elim (n % 2) [ zero ↦ has l (n / 2) | suc _ ↦ has r (n / 2) ]

-- the same of a sum, whose digits are made as they are asked for
unfoldable pub has_sum : Tree → ℕ → ℕ → Bool
has_sum none a b = false
has_sum full a b = true
has_sum (node l r) a b = elim ((a + b) % 2) [ zero ↦ has_sum l (a / 2) (b / 2) | suc _ ↦ has_sum r (a / 2) (b / 2) ]

-- with the sum of a and b, of which f digits are looked at
unfoldable pub put : ℕ → ℕ → ℕ → Tree → Tree
put zero a b t = full
put (suc f) a b none = elim ((a + b) % 2) [ zero ↦ node (put f (a / 2) (b / 2) none) none | suc _ ↦ node none (put f (a / 2) (b / 2) none) ]
put (suc f) a b full = full
put (suc f) a b (node l r) = elim ((a + b) % 2) [ zero ↦ node (put f (a / 2) (b / 2) l) r | suc _ ↦ node l (put f (a / 2) (b / 2) r) ]

-- with the sum of a and each of the list
unfoldable pub put_each : ℕ → List ℕ → Tree → Tree
put_each a [] t = t
put_each a (p ∷ ps) t = put 24 a p (put_each a ps t)

-- with the sums of two of the list
unfoldable pub put_pairs : List ℕ → Tree → Tree
put_pairs [] t = t
put_pairs (p ∷ ps) t = put_each p ps (put_pairs ps t)

-- ---- `has_sum` is `has` of the sum

sum_low : (a b : ℕ) → (a + b) % 2 ≡ bit_xor a b % 2
sum_low a b = omega (arith, xor_add_and a b)

pick : ℕ → Bool → Bool → Bool
pick zero x y = x
pick (suc k) x y = y

has_node : (l r : Tree) (n : ℕ) → has (node l r) n ≡ pick (n % 2) (has l (n / 2)) (has r (n / 2))
unfolding has pick
has_node l r n = go (n % 2)
  where
    go : (k : ℕ) → elim k as (λ x. Bool) [ zero ↦ has l (n / 2) | suc _ ↦ has r (n / 2) ] ≡ pick k (has l (n / 2)) (has r (n / 2))
    go zero = refl
    go (suc k) = refl

has_sum_node : (l r : Tree) (a b : ℕ) → has_sum (node l r) a b ≡ pick ((a + b) % 2) (has_sum l (a / 2) (b / 2)) (has_sum r (a / 2) (b / 2))
unfolding has_sum pick
has_sum_node l r a b = go ((a + b) % 2)
  where
    go : (k : ℕ) → elim k as (λ x. Bool) [ zero ↦ has_sum l (a / 2) (b / 2) | suc _ ↦ has_sum r (a / 2) (b / 2) ] ≡ pick k (has_sum l (a / 2) (b / 2)) (has_sum r (a / 2) (b / 2))
    go zero = refl
    go (suc k) = refl

pub has_sum_is : (t : Tree) (a b : ℕ) → has_sum t a b ≡ has t (bit_xor a b)
unfolding has has_sum
has_sum_is none a b = refl
has_sum_is full a b = refl
has_sum_is (node l r) a b =
    has_sum_node l r a b
    ∙ ap₂ (λ (x y : Bool). pick ((a + b) % 2) x y) (has_sum_is l (a / 2) (b / 2)) (has_sum_is r (a / 2) (b / 2))
    ∙ ap₂ (λ (k n : ℕ). pick k (has l n) (has r n)) (sum_low a b) (sym (xor_shr a b 1))
    ∙ sym (has_node l r (bit_xor a b))
