-- The count of the digits 1 of a number, and what becomes of it in sums and shifts.
use mathlib.Core.Path.{◌≡◌, refl, sym, ap, ap₂, ◌∙◌}
use Prim.Native.Nat.{ℕ, zero, suc, ◌+◌, ◌*◌, ◌/◌, ◌%◌, ◌^◌, ◌<◌}
use native.Mathlib.Nat.{mod-lt, zero-lt-suc, mul-mod_left, mul-div_cancel, div-add-mod', zero-add, add-zero, le_of_suc-le-suc, not-suc-le-zero}
use native.Mathlib.Omega.{arith}
use lib.Arith.{bin_ind}
use lib.Bits.{bit_xor, bit_and, xor_shr, xor_mod, and_shr, and_mod}
use lib.Pow.{pow_pos}
use lib.Count.{ones, ones_in, ones_step, ones_cat}

pub two_pos : zero < 2
two_pos = zero-lt-suc 1

pub ones_none : ones 0 ≡ 0
unfolding ones ones_in
ones_none = refl

pub ones_one : ones 1 ≡ 1
unfolding ones ones_in
ones_one = refl

pub ones_double : (a : ℕ) → ones (a * 2) ≡ ones a
ones_double a =
    ones_step (a * 2) ∙ ap₂ (λ (l h : ℕ). l + ones h) (mul-mod_left a 2) (mul-div_cancel a two_pos) ∙ zero-add (ones a)

pub ones_shl : (a k : ℕ) → ones (a * 2 ^ k) ≡ ones a
ones_shl a k =
    ap ones (sym (add-zero (a * 2 ^ k))) ∙ ones_cat k a 0 (pow_pos k) ∙ ap (λ (n : ℕ). ones a + n) ones_none ∙ add-zero (ones a)

-- no digit 1 at all
pub ones_zero : (d : ℕ) → ones d ≡ 0 → d ≡ 0
ones_zero =
    bin_ind (λ (d : ℕ). ones d ≡ 0 → d ≡ 0) (λ e. refl)
    (λ d ih e.
    let s : ones d ≡ d % 2 + ones (d / 2) = ones_step d in
    let h : d / 2 ≡ 0 = ih (omega arith) in
    omega (arith, div-add-mod' d 2))

-- one digit of a sum and of a product
digit-sum : (x y : ℕ) → x < 2 → y < 2 → bit_xor x y + 2 * bit_and x y ≡ x + y
digit-sum zero y p q = omega arith
digit-sum (suc zero) zero p q = refl
digit-sum (suc zero) (suc zero) p q = refl
digit-sum (suc zero) (suc (suc y)) p q = absurd (not-suc-le-zero (le_of_suc-le-suc (le_of_suc-le-suc q)))
digit-sum (suc (suc x)) y p q = absurd (not-suc-le-zero (le_of_suc-le-suc (le_of_suc-le-suc p)))

-- the digits 1 of a sum: those of both, less twice those that meet
pub ones_xor : (a b : ℕ) → ones (bit_xor a b) + 2 * ones (bit_and a b) ≡ ones a + ones b
ones_xor =
    bin_ind (λ (a : ℕ). (b : ℕ) → ones (bit_xor a b) + 2 * ones (bit_and a b) ≡ ones a + ones b)
    (λ b. omega (arith, ones_none))
    (λ a ih b.
    let x : ones (bit_xor a b) ≡ bit_xor (a % 2) (b % 2) + ones (bit_xor (a / 2) (b / 2)) =
    ones_step (bit_xor a b) ∙ ap₂ (λ (l h : ℕ). l + ones h) (xor_mod a b 1) (xor_shr a b 1) in
    let y : ones (bit_and a b) ≡ bit_and (a % 2) (b % 2) + ones (bit_and (a / 2) (b / 2)) =
    ones_step (bit_and a b) ∙ ap₂ (λ (l h : ℕ). l + ones h) (and_mod a b 1) (and_shr a b 1) in
    omega (arith, x, y, ones_step a, ones_step b, ih (b / 2), digit-sum (a % 2) (b % 2) (mod-lt a two_pos) (mod-lt b two_pos)))
