-- From a computed test over sums of powers to every number with so many digits 1.
use mathlib.Core.Path.{◌≡◌, sym, ap, ◌∙◌, subst}
use mathlib.Core.Logic.{◌⊎◌, inl, inr}
use mathlib.Core.Bool.{Bool, not}
use Prim.Native.Nat.{ℕ, suc, ◌+◌, ◌*◌, ◌/◌, ◌%◌, ◌^◌, ◌<◌}
use native.Mathlib.Nat.{add-zero, mul-one, div-add-mod', pow-suc, div-lt_iff_lt-mul, zero-lt-suc, lt_of_le_of_lt, div-le_self}
use native.Mathlib.Omega.{arith}
use lib.Arith.{bin_ind}
use lib.Dec.{T, T_not, eqb, eqb_refl, lit<}
use lib.Bits.{bit_xor, xor_comm, xor_zero_r, xor_shifted}
use lib.Count.{ones, ones_step}
use Rattle.division.specs.Division.{remainder}
use Rattle.division.proofs.Laws.{xor-zero→eq, remainder-xor, remainder_small, remainder-zero}
use Rattle.notices.proofs.Digits.{ones_none, ones_zero}
use Rattle.notices.proofs.Walk.{powers, walk, walk-sound, low_digit, shifted_zero}
use Rattle.notices.proofs.Tree.{Tree, has, has_sum, has_sum_is}

-- ---- the lowest power is 1, or can be made so

odd_whole : (d : ℕ) → d % 2 ≡ 1 → remainder d ≡ bit_xor 1 (remainder (d / 2 * 2 ^ 1))
odd_whole d e =
    ap remainder (whole ∙ sym (xor_shifted (d / 2) 1 1 (lit< tt)))
    ∙ remainder-xor (d / 2 * 2) 1
    ∙ ap (bit_xor (remainder (d / 2 * 2))) (remainder_small 1 (lit< tt))
    ∙ xor_comm (remainder (d / 2 * 2)) 1
  where
    whole : d ≡ d / 2 * 2 + 1
    whole = omega (arith, div-add-mod' d 2)

half_lt : (d n : ℕ) → d < 2 ^ suc n → d / 2 < 2 ^ n
half_lt d n h = (div-lt_iff_lt-mul (zero-lt-suc 1)).1 (subst (λ (x : ℕ). d < x) (pow-suc 2 n) h)

abbrev pub Noticed : ℕ → ℕ → Type 0
Noticed n w = (d : ℕ) → d < 2 ^ n → ones d ≡ w → remainder d ≡ 0 → ⊥

pub from_odd : (n w : ℕ) → ((d : ℕ) → d < 2 ^ n → d % 2 ≡ 1 → ones d ≡ suc w → remainder d ≡ 0 → ⊥) → Noticed n (suc w)
from_odd n w odd =
    bin_ind (λ (d : ℕ). d < 2 ^ n → ones d ≡ suc w → remainder d ≡ 0 → ⊥)
    (λ h o e. let z : ones 0 ≡ 0 = ones_none in omega arith)
    (λ d ih h o e. pick d ih h o e (low_digit d))
  where
    pick : (d : ℕ) → (d / 2 < 2 ^ n → ones (d / 2) ≡ suc w → remainder (d / 2) ≡ 0 → ⊥)
        → d < 2 ^ n → ones d ≡ suc w → remainder d ≡ 0 → (d % 2 ≡ 0) ⊎ (d % 2 ≡ 1) → ⊥
    pick d ih h o e (inl l) =
        let whole : d / 2 * 2 ≡ d = omega (arith, div-add-mod' d 2) in
        ih (lt_of_le_of_lt (div-le_self d 2) h) (omega (arith, ones_step d)) (shifted_zero (d / 2) 1 (ap remainder whole ∙ e))
    pick d ih h o e (inr l) = odd d h l o e

-- ---- the test

module _ (n m : ℕ) (f : ℕ → ℕ → Bool)
    (ok : (r p e : ℕ) → T (f r p) → e < 2 ^ suc n → ones e ≡ m → bit_xor (bit_xor r p) (remainder e) ≡ 0 → ⊥) where
  pub tested : (j : ℕ) → T (walk f j (powers n 2) 1) → Noticed (suc n) (suc (suc j + m))
  tested j t = from_odd (suc n) (suc j + m) (λ d h l o e.
      walk-sound (suc n) m (λ (v : ℕ). v ≡ 0 → ⊥) f ok j n 1 1 (d / 2) (omega arith) (half_lt d n h) (omega (arith, ones_step d))
      (subst (λ (p : ℕ). T (walk f j (powers n p) 1)) (sym (remainder_small 2 (lit< tt))) t)
      (sym (odd_whole d l) ∙ e))

-- ---- against no power: two digits

apart : (r p e : ℕ) → T (not (eqb r p)) → ones e ≡ 0 → bit_xor (bit_xor r p) (remainder e) ≡ 0 → ⊥
apart r p e t o z = T_not (eqb r p) t (subst (λ (x : ℕ). T (eqb r x)) same (eqb_refl r))
  where
    same : r ≡ p
    same = xor-zero→eq r p (sym (xor_zero_r (bit_xor r p)) ∙ ap (bit_xor (bit_xor r p)) (sym remainder-zero ∙ ap remainder (sym (ones_zero e o))) ∙ z)

pub two_tested : (n : ℕ) → T (walk (λ a b. not (eqb a b)) 0 (powers n 2) 1) → Noticed (suc n) 2
two_tested n t = tested n 0 (λ a b. not (eqb a b)) (λ r p e t h o. apart r p e t o) 0 t

-- ---- against the sums of k + 1 powers, which a tree holds

held : (t : Tree) (r p e : ℕ) → T (has_sum t r p) → ones e ≡ 0 → T (has t (bit_xor (bit_xor r p) (remainder e)))
held t r p e h o =
    subst T
    (has_sum_is t r p ∙ ap (has t) (sym (xor_zero_r (bit_xor r p)) ∙ ap (bit_xor (bit_xor r p)) (sym remainder-zero ∙ ap remainder (sym (ones_zero e o)))))
    h

pub holds : (n k : ℕ) (t : Tree) → T (walk (has_sum t) k (powers n 1) 0) → (e : ℕ) → e < 2 ^ n → ones e ≡ suc k → T (has t (remainder e))
holds n k t w e h o =
    subst (λ (x : ℕ). T (has t (remainder x))) (mul-one e)
    (walk-sound n 0 (λ (v : ℕ). T (has t v)) (has_sum t) (λ r p e t' l o. held t r p e t' o) k n 0 0 e (add-zero n) h (o ∙ sym (add-zero (suc k)))
    (subst (λ (p : ℕ). T (walk (has_sum t) k (powers n p) 0)) (sym (remainder_small 1 (lit< tt))) w))

missed : (t : Tree) (r p v : ℕ) → T (not (has_sum t r p)) → T (has t v) → bit_xor (bit_xor r p) v ≡ 0 → ⊥
missed t r p v a b z =
    T_not (has_sum t r p) a (subst T (sym (has_sum_is t r p ∙ ap (has t) (xor-zero→eq (bit_xor r p) v z))) b)

pub tree_tested : (n k j : ℕ) (t : Tree) → T (walk (has_sum t) k (powers (suc n) 1) 0) → T (walk (λ a b. not (has_sum t a b)) j (powers n 2) 1)
    → Noticed (suc n) (suc (suc j + suc k))
tree_tested n k j t all none =
    tested n (suc k) (λ a b. not (has_sum t a b)) (λ r p e a h o. missed t r p (remainder e) a (holds (suc n) k t all e h o)) j none
