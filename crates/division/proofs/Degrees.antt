-- The degrees of products and of quotients.
use mathlib.Core.Path.{◌≡◌, sym, ap, ◌∙◌, subst}
use Prim.Native.Nat.{ℕ, zero, suc, ◌+◌, ◌*◌, ◌/◌, ◌%◌, ◌^◌, ◌<◌}
use native.Mathlib.Nat.{mod-lt, pow-suc, lt_of_lt_of_le, zero-mul, one-mul, le_of_suc-le-suc, not-suc-le-zero}
use native.Mathlib.Omega.{arith}
use lib.Dec.{lit<}
use lib.Bits.{xor_lt}
use lib.Pow.{pow_pos, pow_mono}
use Rattle.division.specs.Polynomial.{product}
use Rattle.division.specs.Division.{generator, quotient, remainder}
use Rattle.division.proofs.Dividing.{product-zero, product-step, quotient_small, quotient-step, remainder-lt}
use Rattle.division.proofs.Shifting.{generator-lt}

half_lt : (n k : ℕ) → n < 2 ^ suc k → n / 2 < 2 ^ k
half_lt n k h = let s : 2 ^ suc k ≡ 2 ^ k * 2 = pow-suc 2 k in omega arith

-- a product of k coefficients with a polynomial of degree d
pub product-below : (d k q g : ℕ) → g < 2 ^ suc d → q < 2 ^ k → product q g < 2 ^ (d + k)
product-below d zero q g hg h =
    let z : q ≡ 0 = omega arith in subst (λ (n : ℕ). n < 2 ^ (d + zero)) (sym (ap (λ (x : ℕ). product x g) z ∙ product-zero g)) (pow_pos (d + zero))
product-below d (suc k) q g hg h =
    subst (λ (n : ℕ). n < 2 ^ (d + suc k)) (sym (product-step q g))
    (xor_lt (d + suc k) (product (q / 2) g * 2) (q % 2 * g) (doubled (product-below d k (q / 2) g hg (half_lt q k h)))
    (lt_of_lt_of_le (one_of (q % 2) (mod-lt q (lit< tt))) (pow_mono {i = suc d} {j = d + suc k} (omega arith))))
  where
    doubled : product (q / 2) g < 2 ^ (d + k) → product (q / 2) g * 2 < 2 ^ (d + suc k)
    doubled l = let s : 2 ^ suc (d + k) ≡ 2 ^ (d + k) * 2 = pow-suc 2 (d + k) in subst (λ (e : ℕ). product (q / 2) g * 2 < 2 ^ e) {x = suc (d + k)} {y = d + suc k} (omega arith) (omega arith)

    one_of : (t : ℕ) → t < 2 → t * g < 2 ^ suc d
    one_of zero l = subst (λ (n : ℕ). n < 2 ^ suc d) (sym (zero-mul g)) (pow_pos (suc d))
    one_of (suc zero) l = subst (λ (n : ℕ). n < 2 ^ suc d) (sym (one-mul g)) hg
    one_of (suc (suc t)) l = absurd (not-suc-le-zero (le_of_suc-le-suc (le_of_suc-le-suc l)))

-- with the generator
pub product_lt : (k q : ℕ) → q < 2 ^ k → product q generator < 2 ^ (24 + k)
product_lt k q h = product-below 24 k q generator (subst (λ (g : ℕ). g < 2 ^ 25) (one-mul generator) (generator-lt 1 (lit< tt))) h

-- the quotient of 24 + k coefficients
pub quotient-lt : (k a : ℕ) → a < 2 ^ (24 + k) → quotient a < 2 ^ k
quotient-lt zero a h = subst (λ (n : ℕ). n < 1) (sym (quotient_small a h)) (lit< tt)
quotient-lt (suc k) a h =
    let s : 2 ^ suc k ≡ 2 ^ k * 2 = pow-suc 2 k in
    let q : quotient (a / 2) < 2 ^ k = quotient-lt k (a / 2) (half_lt a (24 + k) (subst (λ (e : ℕ). a < 2 ^ e) {x = 24 + suc k} {y = suc (24 + k)} (omega arith) h)) in
    let r : remainder (a / 2) < 2 ^ 24 = remainder-lt (a / 2) in
    let t : (remainder (a / 2) * 2 + a % 2) / 2 ^ 24 < 2 = omega arith in
    subst (λ (n : ℕ). n < 2 ^ suc k) (sym (quotient-step a)) (omega arith)
