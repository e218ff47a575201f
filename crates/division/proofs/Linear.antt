-- Linear functions of a polynomial: two that agree on the powers of x below x^n agree on every sum of them.
--
-- So a formula of shifts is compared with a definition on a few powers, by one computed test.
use mathlib.Core.Path.{◌≡◌, refl, sym, ap, ap₂, ◌∙◌, subst}
use Prim.Native.Nat.{ℕ, zero, suc, ◌*◌, ◌/◌, ◌%◌, ◌^◌, ◌<◌}
use native.Mathlib.Nat.{mod-lt, zero-mul, one-mul, mul_comm, pow-suc, le_of_suc-le-suc, not-suc-le-zero, div-lt_iff_lt-mul}
use native.Mathlib.Omega.{arith}
use lib.Pow.{pow_pos, split}
use lib.Bits.{bit_xor, xor_self, xor_shr, xor_shifted}
use Rattle.division.proofs.Xor.{xor-middle}

abbrev pub Linear : (ℕ → ℕ) → Type 0
Linear f = (a b : ℕ) → f (bit_xor a b) ≡ bit_xor (f a) (f b)

pub linear_sum : (f g : ℕ → ℕ) → Linear f → Linear g → Linear (λ a. bit_xor (f a) (g a))
linear_sum f g hf hg a b = ap₂ bit_xor (hf a b) (hg a b) ∙ xor-middle (f a) (f b) (g a) (g b)

pub linear_shr : (f : ℕ → ℕ) (k : ℕ) → Linear f → Linear (λ a. f a / 2 ^ k)
linear_shr f k hf a b = ap (λ (n : ℕ). n / 2 ^ k) (hf a b) ∙ xor_shr (f a) (f b) k

pub linear_itself : Linear (λ a. a)
linear_itself a b = refl

pub linear_zero : (f : ℕ → ℕ) → Linear f → f 0 ≡ 0
linear_zero f h = h 0 0 ∙ xor_self (f 0)

pub linear_agree : (f g : ℕ → ℕ) → Linear f → Linear g → (n : ℕ) → ((k : ℕ) → k < n → f (2 ^ k) ≡ g (2 ^ k)) → (a : ℕ) → a < 2 ^ n → f a ≡ g a
linear_agree f g hf hg zero e a h =
    let z : a ≡ 0 = omega arith in ap f z ∙ linear_zero f hf ∙ sym (ap g z ∙ linear_zero g hg)
linear_agree f g hf hg (suc n) e a h =
    sym (ap f parts) ∙ hf (a / 2 ^ n * 2 ^ n) (a % 2 ^ n)
    ∙ ap₂ bit_xor (top (a / 2 ^ n) top_lt) (linear_agree f g hf hg n (λ k l. e k (omega arith)) (a % 2 ^ n) (mod-lt a (pow_pos n)))
    ∙ sym (hg (a / 2 ^ n * 2 ^ n) (a % 2 ^ n)) ∙ ap g parts
  where
    parts : bit_xor (a / 2 ^ n * 2 ^ n) (a % 2 ^ n) ≡ a
    parts = xor_shifted (a / 2 ^ n) n (a % 2 ^ n) (mod-lt a (pow_pos n)) ∙ split a n

    top_lt : a / 2 ^ n < 2
    top_lt = (div-lt_iff_lt-mul (pow_pos n)).1 (subst (λ (b : ℕ). a < b) (pow-suc 2 n ∙ mul_comm (2 ^ n) 2) h)

    top : (t : ℕ) → t < 2 → f (t * 2 ^ n) ≡ g (t * 2 ^ n)
    top zero l = ap f (zero-mul (2 ^ n)) ∙ linear_zero f hf ∙ sym (ap g (zero-mul (2 ^ n)) ∙ linear_zero g hg)
    top (suc zero) l = ap f (one-mul (2 ^ n)) ∙ e n (omega arith) ∙ sym (ap g (one-mul (2 ^ n)))
    top (suc (suc t)) l = absurd (not-suc-le-zero (le_of_suc-le-suc (le_of_suc-le-suc l)))
