-- Division by the generator is division: `division_equation` and `division_unique` say that the quotient and the
-- remainder of specs/Division.antt are the only pair with a = quotient·G + remainder and a remainder of degree below 24.
-- The idea: each definition is one fold over the coefficients, so it has one step law, and every law here is an
-- induction on the coefficients (`bin_ind`) that uses the step laws alone.
use mathlib.Core.Path.{◌≡◌, refl, sym, ap, ap₂, ◌∙◌, subst}
use Prim.Native.Nat.{ℕ, zero, suc, ◌+◌, ◌*◌, ◌/◌, ◌%◌, ◌^◌, ◌≤◌, ◌<◌}
use native.Mathlib.Nat.{le_refl, le_of_suc-le-suc, not-suc-le-zero, mod-lt, zero-lt-suc, add-zero, zero-mul, div-add-mod', div-lt_iff_lt-mul, mul-mod_left, mul-div_cancel, div-eq_of_lt}
use native.Mathlib.Decide.{le_ind}
use native.Mathlib.Omega.{arith}
use lib.Dec.{lit<}
use lib.Arith.{bin_ind, half_le, digits_div, digits_mod}
use lib.Bits.{bit_xor, xor_self, xor_zero_r, xor_block, xor_shr, xor_mod, xor_shifted}
use Rattle.division.specs.Polynomial.{polynomial, downwards, product}
use Rattle.division.specs.Division.{generator, generator_powers, reduce, divide, quotient, remainder}
use Rattle.division.proofs.Xor.{xor_half, xor-middle, xor_common, xor-shl, xor_bit_times}

two_pos : zero < 2
two_pos = zero-lt-suc 1

-- ---- the step law of a fold over the coefficients

module _ {A : Type 0} (start : A) (step : A → ℕ → A) (rest : step start 0 ≡ start) where
  more : (d n : ℕ) → n ≤ d → downwards start step (suc d) n ≡ downwards start step d n
  unfolding downwards
  more zero zero h = refl
  more zero (suc n) h = absurd (not-suc-le-zero h)
  more (suc d) zero h = refl
  more (suc d) (suc n) h = ap (λ (a : A). step a (suc n)) (more d (suc n / 2) (half_le h))

  enough : (d n : ℕ) → n ≤ d → downwards start step d n ≡ downwards start step n n
  enough d n h =
      le_ind (λ (m : ℕ). downwards start step m n ≡ downwards start step n n) refl (λ m k e. more m n k ∙ e) d h

  downwards-step : (n : ℕ) → downwards start step n n ≡ step (downwards start step (n / 2) (n / 2)) n
  unfolding downwards
  downwards-step zero = sym rest
  downwards-step (suc n) = ap (λ (a : A). step a (suc n)) (enough n (suc n / 2) (half_le (le_refl (suc n))))

-- ---- the generator

pub generator_is : generator ≡ 0x1FFF409
unfolding generator generator_powers polynomial
generator_is = refl

-- ---- the product

pub product-zero : (b : ℕ) → product 0 b ≡ 0
unfolding product downwards
product-zero b = refl

pub product-step : (a b : ℕ) → product a b ≡ bit_xor (product (a / 2) b * 2) (a % 2 * b)
unfolding product
product-step a b =
    downwards-step 0 (λ (p n : ℕ). bit_xor (p * 2) (n % 2 * b)) (ap (bit_xor (0 * 2)) (zero-mul b)) a

-- ---- the steps of division

divide-step : (n : ℕ) → divide n ≡ ((divide (n / 2)).0 * 2 + ((divide (n / 2)).1 * 2 + n % 2) / 2 ^ 24, reduce ((divide (n / 2)).1 * 2 + n % 2))
unfolding divide reduce generator generator_powers polynomial
divide-step n = downwards-step (0, 0) (λ (d : ℕ × ℕ) (n : ℕ). let v = d.1 * 2 + n % 2 in (d.0 * 2 + v / 2 ^ 24, reduce v)) refl n

pub remainder-step : (n : ℕ) → remainder n ≡ reduce (remainder (n / 2) * 2 + n % 2)
unfolding remainder
remainder-step n = ap (λ (d : ℕ × ℕ). d.1) (divide-step n)

pub quotient-step : (n : ℕ) → quotient n ≡ quotient (n / 2) * 2 + (remainder (n / 2) * 2 + n % 2) / 2 ^ 24
unfolding remainder quotient
quotient-step n = ap (λ (d : ℕ × ℕ). d.0) (divide-step n)

pub remainder-zero : remainder 0 ≡ 0
unfolding remainder divide downwards
remainder-zero = refl

pub quotient-zero : quotient 0 ≡ 0
unfolding quotient divide downwards
quotient-zero = refl

-- ---- one reduction

top_lt : (v : ℕ) → v < 2 ^ 25 → v / 2 ^ 24 < 2
top_lt v h = (div-lt_iff_lt-mul (lit< tt)).1 h

top_of_generator : (t : ℕ) → t < 2 → t * generator / 2 ^ 24 ≡ t
unfolding generator generator_powers polynomial
top_of_generator zero h = refl
top_of_generator (suc zero) h = refl
top_of_generator (suc (suc t)) h = absurd (not-suc-le-zero (le_of_suc-le-suc (le_of_suc-le-suc h)))

reduce-lt : (v : ℕ) → v < 2 ^ 25 → reduce v < 2 ^ 24
unfolding reduce
reduce-lt v h = (div-lt_iff_lt-mul (lit< tt)).0 (subst (λ (n : ℕ). n < 1) (sym none) (lit< tt))
  where
    none : bit_xor v (v / 2 ^ 24 * generator) / 2 ^ 24 ≡ 0
    none =
        xor_shr v (v / 2 ^ 24 * generator) 24
        ∙ ap (bit_xor (v / 2 ^ 24)) (top_of_generator (v / 2 ^ 24) (top_lt v h))
        ∙ xor_self (v / 2 ^ 24)

reduce_small : (v : ℕ) → v < 2 ^ 24 → reduce v ≡ v
unfolding reduce
reduce_small v h =
    ap (λ (t : ℕ). bit_xor v (t * generator)) (div-eq_of_lt h) ∙ ap (bit_xor v) (zero-mul generator) ∙ xor_zero_r v

reduce-xor : (u v : ℕ) → u < 2 ^ 25 → v < 2 ^ 25 → reduce (bit_xor u v) ≡ bit_xor (reduce u) (reduce v)
unfolding reduce
reduce-xor u v hu hv =
    ap (λ (t : ℕ). bit_xor (bit_xor u v) (t * generator)) (xor_shr u v 24)
    ∙ ap (bit_xor (bit_xor u v)) (xor_bit_times (u / 2 ^ 24) (v / 2 ^ 24) generator (top_lt u hu) (top_lt v hv))
    ∙ xor-middle u v (u / 2 ^ 24 * generator) (v / 2 ^ 24 * generator)

-- ---- the remainder has degree below 24

next-lt : (r n : ℕ) → r < 2 ^ 24 → r * 2 + n % 2 < 2 ^ 25
next-lt r n h = omega (arith, mod-lt n two_pos)

pub remainder-lt : (a : ℕ) → remainder a < 2 ^ 24
remainder-lt =
    bin_ind (λ (n : ℕ). remainder n < 2 ^ 24) (subst (λ (r : ℕ). r < 2 ^ 24) (sym remainder-zero) (lit< tt))
    (λ n ih. subst (λ (r : ℕ). r < 2 ^ 24) (sym (remainder-step n)) (reduce-lt (remainder (n / 2) * 2 + n % 2) (next-lt (remainder (n / 2)) n ih)))

next-remainder-lt : (n : ℕ) → remainder (n / 2) * 2 + n % 2 < 2 ^ 25
next-remainder-lt n = next-lt (remainder (n / 2)) n (remainder-lt (n / 2))

-- ---- below the generator there is nothing to divide

half_small : (n : ℕ) → n < 2 ^ 24 → n / 2 < 2 ^ 24
half_small n h = omega arith

pub remainder_small : (a : ℕ) → a < 2 ^ 24 → remainder a ≡ a
remainder_small =
    bin_ind (λ (n : ℕ). n < 2 ^ 24 → remainder n ≡ n) (λ h. remainder-zero)
    (λ n ih h.
    remainder-step n
    ∙ ap (λ (r : ℕ). reduce (r * 2 + n % 2)) (ih (half_small n h))
    ∙ ap reduce (div-add-mod' n 2)
    ∙ reduce_small n h)

-- one step is enough below x^25
pub remainder_once : (v : ℕ) → v < 2 ^ 25 → remainder v ≡ reduce v
remainder_once v h =
    remainder-step v
    ∙ ap (λ (r : ℕ). reduce (r * 2 + v % 2)) (remainder_small (v / 2) (omega arith))
    ∙ ap reduce (div-add-mod' v 2)

pub remainder_taken : (v : ℕ) → v < 2 ^ 25 → 2 ^ 24 ≤ v → bit_xor v 0x1FFF409 ≡ remainder v
unfolding reduce
remainder_taken v h l =
    let one : v / 2 ^ 24 ≡ 1 = omega arith in
    ap₂ (λ (t g : ℕ). bit_xor v (t * g)) (sym one) (sym generator_is) ∙ sym (remainder_once v h)

-- what `reduced` needs
pub ruleset one_reduction = (remainder_small, remainder_taken)

pub quotient_small : (a : ℕ) → a < 2 ^ 24 → quotient a ≡ 0
quotient_small =
    bin_ind (λ (n : ℕ). n < 2 ^ 24 → quotient n ≡ 0) (λ h. quotient-zero)
    (λ n ih h.
    quotient-step n
    ∙ ap₂ (λ (q r : ℕ). q * 2 + (r * 2 + n % 2) / 2 ^ 24) (ih (half_small n h)) (remainder_small (n / 2) (half_small n h))
    ∙ ap (λ (v : ℕ). 0 + v / 2 ^ 24) (div-add-mod' n 2)
    ∙ ap (λ (t : ℕ). 0 + t) (div-eq_of_lt h))

-- ---- linearity

-- the lowest coefficient and the rest, of a sum
xor-next : (r s a b : ℕ) → bit_xor r s * 2 + bit_xor a b % 2 ≡ bit_xor (r * 2 + a % 2) (s * 2 + b % 2)
xor-next r s a b =
    ap (λ (l : ℕ). bit_xor r s * 2 + l) (xor_mod a b 1)
    ∙ sym (xor_block 1 r s (a % 2) (b % 2) (mod-lt a two_pos) (mod-lt b two_pos))

pub remainder-xor : (a b : ℕ) → remainder (bit_xor a b) ≡ bit_xor (remainder a) (remainder b)
remainder-xor =
    bin_ind (λ (a : ℕ). (b : ℕ) → remainder (bit_xor a b) ≡ bit_xor (remainder a) (remainder b))
    (λ b. ap (λ (r : ℕ). bit_xor r (remainder b)) (sym remainder-zero))
    (λ a ih b.
    remainder-step (bit_xor a b)
    ∙ ap (λ (r : ℕ). reduce (r * 2 + bit_xor a b % 2)) (ap remainder (xor_half a b) ∙ ih (b / 2))
    ∙ ap reduce (xor-next (remainder (a / 2)) (remainder (b / 2)) a b)
    ∙ reduce-xor (remainder (a / 2) * 2 + a % 2) (remainder (b / 2) * 2 + b % 2) (next-remainder-lt a) (next-remainder-lt b)
    ∙ sym (ap₂ bit_xor (remainder-step a) (remainder-step b)))

pub quotient-xor : (a b : ℕ) → quotient (bit_xor a b) ≡ bit_xor (quotient a) (quotient b)
quotient-xor =
    bin_ind (λ (a : ℕ). (b : ℕ) → quotient (bit_xor a b) ≡ bit_xor (quotient a) (quotient b))
    (λ b. ap (λ (q : ℕ). bit_xor q (quotient b)) (sym quotient-zero))
    (λ a ih b.
    quotient-step (bit_xor a b)
    ∙ ap₂ (λ (q r : ℕ). q * 2 + (r * 2 + bit_xor a b % 2) / 2 ^ 24)
    (ap quotient (xor_half a b) ∙ ih (b / 2))
    (ap remainder (xor_half a b) ∙ remainder-xor (a / 2) (b / 2))
    ∙ ap (λ (v : ℕ). bit_xor (quotient (a / 2)) (quotient (b / 2)) * 2 + v / 2 ^ 24)
    (xor-next (remainder (a / 2)) (remainder (b / 2)) a b)
    ∙ ap (λ (t : ℕ). bit_xor (quotient (a / 2)) (quotient (b / 2)) * 2 + t)
    (xor_shr (remainder (a / 2) * 2 + a % 2) (remainder (b / 2) * 2 + b % 2) 24)
    ∙ sym (xor_block 1 (quotient (a / 2)) (quotient (b / 2)) ((remainder (a / 2) * 2 + a % 2) / 2 ^ 24)
    ((remainder (b / 2) * 2 + b % 2) / 2 ^ 24)
    (top_lt (remainder (a / 2) * 2 + a % 2) (next-remainder-lt a))
    (top_lt (remainder (b / 2) * 2 + b % 2) (next-remainder-lt b)))
    ∙ sym (ap₂ bit_xor (quotient-step a) (quotient-step b)))

-- ---- the product: one more coefficient, and what makes it a product

pub product-digit : (q t g : ℕ) → t < 2 → product (q * 2 + t) g ≡ bit_xor (product q g * 2) (t * g)
product-digit q t g h =
    product-step (q * 2 + t) g
    ∙ ap₂ (λ (a b : ℕ). bit_xor (product a g * 2) (b * g)) (digits_div q h) (digits_mod q h)

pub product-xor : (a b g : ℕ) → product (bit_xor a b) g ≡ bit_xor (product a g) (product b g)
product-xor a b g =
    bin_ind (λ (a : ℕ). (b : ℕ) → product (bit_xor a b) g ≡ bit_xor (product a g) (product b g))
    (λ b. ap (λ (p : ℕ). bit_xor p (product b g)) (sym (product-zero g)))
    (λ a ih b.
    product-step (bit_xor a b) g
    ∙ ap₂ (λ (p l : ℕ). bit_xor (p * 2) (l * g)) (ap (λ (n : ℕ). product n g) (xor_half a b) ∙ ih (b / 2)) (xor_mod a b 1)
    ∙ ap₂ bit_xor (xor-shl (product (a / 2) g) (product (b / 2) g) 1) (xor_bit_times (a % 2) (b % 2) g (mod-lt a two_pos) (mod-lt b two_pos))
    ∙ xor-middle (product (a / 2) g * 2) (product (b / 2) g * 2) (a % 2 * g) (b % 2 * g)
    ∙ sym (ap₂ bit_xor (product-step a g) (product-step b g)))
    a b

-- ---- the division equation

pub division_equation : (a : ℕ) → a ≡ bit_xor (product (quotient a) generator) (remainder a)
unfolding reduce
division_equation =
    bin_ind (λ (a : ℕ). a ≡ bit_xor (product (quotient a) generator) (remainder a))
    (sym (ap₂ (λ (q r : ℕ). bit_xor (product q generator) r) quotient-zero remainder-zero ∙ xor_zero_r (product 0 generator) ∙ product-zero generator))
    (λ n ih. sym (whole n (quotient (n / 2)) (remainder (n / 2)) (remainder-lt (n / 2)) (quotient-step n) (remainder-step n) ih))
  where
    whole : (n q r : ℕ) → r < 2 ^ 24 → quotient n ≡ q * 2 + (r * 2 + n % 2) / 2 ^ 24 → remainder n ≡ reduce (r * 2 + n % 2)
        → n / 2 ≡ bit_xor (product q generator) r → bit_xor (product (quotient n) generator) (remainder n) ≡ n
    whole n q r hr eq er ih =
        ap₂ (λ (q r : ℕ). bit_xor (product q generator) r) eq er
        ∙ ap (λ (p : ℕ). bit_xor p (reduce (r * 2 + n % 2)))
        (product-digit q ((r * 2 + n % 2) / 2 ^ 24) generator (top_lt (r * 2 + n % 2) (next-lt r n hr)))
        ∙ xor_common (product q generator * 2) ((r * 2 + n % 2) / 2 ^ 24 * generator) (r * 2 + n % 2)
        ∙ ap (λ (p : ℕ). bit_xor p (r * 2 + n % 2)) (sym (add-zero (product q generator * 2)))
        ∙ xor_block 1 (product q generator) r 0 (n % 2) two_pos (mod-lt n two_pos)
        ∙ ap (λ (h : ℕ). h * 2 + n % 2) (sym ih)
        ∙ div-add-mod' n 2

-- ---- multiples of the generator, and uniqueness

pub remainder-double : (a : ℕ) → remainder (a * 2) ≡ reduce (remainder a * 2)
remainder-double a =
    remainder-step (a * 2)
    ∙ ap₂ (λ (h l : ℕ). reduce (remainder h * 2 + l)) (mul-div_cancel a two_pos) (mul-mod_left a 2)
    ∙ ap reduce (add-zero (remainder a * 2))

pub quotient-double : (a : ℕ) → quotient (a * 2) ≡ quotient a * 2 + remainder a * 2 / 2 ^ 24
quotient-double a =
    quotient-step (a * 2)
    ∙ ap₂ (λ (h l : ℕ). quotient h * 2 + (remainder h * 2 + l) / 2 ^ 24) (mul-div_cancel a two_pos) (mul-mod_left a 2)
    ∙ ap (λ (v : ℕ). quotient a * 2 + v / 2 ^ 24) (add-zero (remainder a * 2))

bit_of_generator : (t : ℕ) → t < 2 → (remainder (t * generator) ≡ 0) × (quotient (t * generator) ≡ t)
unfolding remainder quotient divide downwards reduce generator generator_powers polynomial
bit_of_generator zero h = (refl, refl)
bit_of_generator (suc zero) h = (refl, refl)
bit_of_generator (suc (suc t)) h = absurd (not-suc-le-zero (le_of_suc-le-suc (le_of_suc-le-suc h)))

pub multiple : (q : ℕ) → (remainder (product q generator) ≡ 0) × (quotient (product q generator) ≡ q)
multiple =
    bin_ind (λ (q : ℕ). (remainder (product q generator) ≡ 0) × (quotient (product q generator) ≡ q))
    (ap remainder (product-zero generator) ∙ remainder-zero, ap quotient (product-zero generator) ∙ quotient-zero)
    (λ q ih.
    let p = product (q / 2) generator in
    let b = bit_of_generator (q % 2) (mod-lt q two_pos) in (
      ap remainder (product-step q generator) ∙ remainder-xor (p * 2) (q % 2 * generator)
          ∙ ap₂ bit_xor (remainder-double p ∙ ap (λ (r : ℕ). reduce (r * 2)) ih.0 ∙ reduce_small 0 (lit< tt)) b.0,
      ap quotient (product-step q generator) ∙ quotient-xor (p * 2) (q % 2 * generator)
          ∙ ap₂ bit_xor (quotient-double p ∙ ap₂ (λ (h r : ℕ). h * 2 + r * 2 / 2 ^ 24) ih.1 ih.0) b.1
          ∙ ap (λ (n : ℕ). bit_xor n (q % 2)) (add-zero (q / 2 * 2))
          ∙ xor_shifted (q / 2) 1 (q % 2) (mod-lt q two_pos) ∙ div-add-mod' q 2,
    ))

pub division_unique : (a q r : ℕ) → r < 2 ^ 24 → a ≡ bit_xor (product q generator) r → (q ≡ quotient a) × (r ≡ remainder a)
division_unique a q r h e = (
  sym
      (ap quotient e ∙ quotient-xor (product q generator) r ∙ ap₂ bit_xor (multiple q).1 (quotient_small r h) ∙ xor_zero_r q),
  sym
      (ap remainder e ∙ remainder-xor (product q generator) r ∙ ap₂ bit_xor (multiple q).0 (remainder_small r h)),
)
