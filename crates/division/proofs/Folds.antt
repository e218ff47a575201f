-- Folding leaves the remainder as it is: a product with p has the remainder of a product with x^k where p has that of x^k.
use mathlib.Core.Path.{◌≡◌, refl, sym, ap, ap₂, ◌∙◌, subst}
use Prim.Native.Nat.{ℕ, zero, suc, ◌+◌, ◌*◌, ◌/◌, ◌%◌, ◌^◌, ◌<◌, ◌≤◌}
use native.Mathlib.Nat.{le_of_suc-le-suc, not-suc-le-zero, mod-lt, mod-eq_of_lt, zero-lt-suc, zero-mul, one-mul, mul-one, mul_assoc, mul_comm, div-add-mod', div-lt_iff_lt-mul, lt_of_lt_of_le}
use native.Mathlib.Omega.{arith}
use lib.Arith.{bin_ind}
use lib.Dec.{lit<}
use lib.Pow.{pow_pos, pow_mono, pow-add, split}
use lib.Bits.{bit_xor, xor_comm, xor_lt, xor_shifted}
use Rattle.division.specs.Polynomial.{product, downwards, polynomial}
use Rattle.division.specs.Division.{remainder, divide, reduce, generator, generator_powers}
use Rattle.division.specs.Folds.{folded, x25, x50, powers}
use Rattle.division.proofs.Xor.{xor_assoc, xor-middle, xor-shl}
use Rattle.division.proofs.Dividing.{product-zero, product-step, remainder-xor}
use Rattle.division.proofs.Degrees.{product-below}
use Rattle.division.proofs.Shifting.{remainder-shl, shl_comm, shl-shl}

two_pos : zero < 2
two_pos = zero-lt-suc 1

-- ---- products

-- a coefficient times a polynomial
bit_remainder : (t p q : ℕ) → t < 2 → remainder p ≡ remainder q → remainder (t * p) ≡ remainder (t * q)
bit_remainder zero p q h e = ap remainder (zero-mul p ∙ sym (zero-mul q))
bit_remainder (suc zero) p q h e = ap remainder (one-mul p) ∙ e ∙ sym (ap remainder (one-mul q))
bit_remainder (suc (suc t)) p q h e = absurd (not-suc-le-zero (le_of_suc-le-suc (le_of_suc-le-suc h)))

product_congruent : (p q : ℕ) → remainder p ≡ remainder q → (h : ℕ) → remainder (product h p) ≡ remainder (product h q)
product_congruent p q e =
    bin_ind (λ (h : ℕ). remainder (product h p) ≡ remainder (product h q))
    (ap remainder (product-zero p ∙ sym (product-zero q)))
    (λ h ih.
    ap remainder (product-step h p)
    ∙ remainder-xor (product (h / 2) p * 2) (h % 2 * p)
    ∙ ap₂ bit_xor
    (remainder-shl (product (h / 2) p) 1 ∙ ap (λ (r : ℕ). remainder (r * 2)) ih ∙ sym (remainder-shl (product (h / 2) q) 1))
    (bit_remainder (h % 2) p q (mod-lt h two_pos) e)
    ∙ sym (remainder-xor (product (h / 2) q * 2) (h % 2 * q))
    ∙ sym (ap remainder (product-step h q)))

-- the product with a power is a shift
product_power : (k h : ℕ) → product h (2 ^ k) ≡ h * 2 ^ k
product_power k =
    bin_ind (λ (h : ℕ). product h (2 ^ k) ≡ h * 2 ^ k)
    (product-zero (2 ^ k) ∙ sym (zero-mul (2 ^ k)))
    (λ h ih.
    product-step h (2 ^ k)
    ∙ ap (λ (p : ℕ). bit_xor (p * 2) (h % 2 * 2 ^ k)) ih
    ∙ ap (λ (p : ℕ). bit_xor p (h % 2 * 2 ^ k)) (shl_comm (h / 2) k 1)
    ∙ sym (xor-shl (h / 2 * 2) (h % 2) k)
    ∙ ap (λ (n : ℕ). n * 2 ^ k) (parts h))
  where
    parts : (h : ℕ) → bit_xor (h / 2 * 2) (h % 2) ≡ h
    parts h = xor_shifted (h / 2) 1 (h % 2) (mod-lt h two_pos) ∙ div-add-mod' h 2

bit_xor_lem : (t p q : ℕ) → t < 2 → t * bit_xor p q ≡ bit_xor (t * p) (t * q)
bit_xor_lem zero p q h = zero-mul (bit_xor p q) ∙ sym (ap₂ bit_xor (zero-mul p) (zero-mul q))
bit_xor_lem (suc zero) p q h = one-mul (bit_xor p q) ∙ sym (ap₂ bit_xor (one-mul p) (one-mul q))
bit_xor_lem (suc (suc t)) p q h = absurd (not-suc-le-zero (le_of_suc-le-suc (le_of_suc-le-suc h)))

product-sum : (p q h : ℕ) → product h (bit_xor p q) ≡ bit_xor (product h p) (product h q)
product-sum p q =
    bin_ind (λ (h : ℕ). product h (bit_xor p q) ≡ bit_xor (product h p) (product h q))
    (product-zero (bit_xor p q) ∙ sym (ap₂ bit_xor (product-zero p) (product-zero q)))
    (λ h ih.
    product-step h (bit_xor p q)
    ∙ ap₂ bit_xor (ap (λ (n : ℕ). n * 2) ih ∙ xor-shl (product (h / 2) p) (product (h / 2) q) 1) (bit_xor_lem (h % 2) p q (mod-lt h two_pos))
    ∙ xor-middle (product (h / 2) p * 2) (product (h / 2) q * 2) (h % 2 * p) (h % 2 * q)
    ∙ sym (ap₂ bit_xor (product-step h p) (product-step h q)))

product_shift : (k p h : ℕ) → product h p * 2 ^ k ≡ product h (p * 2 ^ k)
product_shift k p =
    bin_ind (λ (h : ℕ). product h p * 2 ^ k ≡ product h (p * 2 ^ k))
    (ap (λ (n : ℕ). n * 2 ^ k) (product-zero p) ∙ zero-mul (2 ^ k) ∙ sym (product-zero (p * 2 ^ k)))
    (λ h ih.
    ap (λ (n : ℕ). n * 2 ^ k) (product-step h p)
    ∙ xor-shl (product (h / 2) p * 2) (h % 2 * p) k
    ∙ ap₂ bit_xor (shl_comm (product (h / 2) p) 1 k ∙ ap (λ (n : ℕ). n * 2) ih) (mul_assoc (h % 2) p (2 ^ k))
    ∙ sym (product-step h (p * 2 ^ k)))

-- ---- the two polynomials, as the code multiplies by them

-- three shifts of a, by i and by 2 i, and what they make with a shift by j and one by k: a·p·(1 + x^j) + a·q·x^k, where p is
-- 1 + x^i and q is p + x^(2 i)
shifts_are : (i j k a : ℕ)
    → (let p : ℕ = bit_xor 1 (2 ^ i) in
    let three : ℕ = bit_xor a (a * 2 ^ i) in
    bit_xor (bit_xor three (three * 2 ^ j)) (bit_xor three (a * 2 ^ (i + i)) * 2 ^ k)
    ≡ product a (bit_xor (bit_xor p (p * 2 ^ j)) (bit_xor p (2 ^ (i + i)) * 2 ^ k)))
shifts_are i j k a =
    ap₂ bit_xor
    (ap₂ bit_xor three (ap (λ (n : ℕ). n * 2 ^ j) three ∙ product_shift j p a) ∙ sym (product-sum p (p * 2 ^ j) a))
    (ap (λ (n : ℕ). n * 2 ^ k) seven ∙ product_shift k (bit_xor p (2 ^ (i + i))) a)
    ∙ sym (product-sum (bit_xor p (p * 2 ^ j)) (bit_xor p (2 ^ (i + i)) * 2 ^ k) a)
  where
    p : ℕ
    p = bit_xor 1 (2 ^ i)

    three : bit_xor a (a * 2 ^ i) ≡ product a p
    three = ap₂ bit_xor (sym (product_power 0 a ∙ mul-one a)) (sym (product_power i a)) ∙ sym (product-sum 1 (2 ^ i) a)

    seven : bit_xor (bit_xor a (a * 2 ^ i)) (a * 2 ^ (i + i)) ≡ product a (bit_xor p (2 ^ (i + i)))
    seven = ap₂ bit_xor three (sym (product_power (i + i) a)) ∙ sym (product-sum p (2 ^ (i + i)) a)

-- the same where a machine's shifts drop what is above 64 bits, and nothing is
shifts_fit : (i j k a : ℕ) → a * 2 ^ i < 2 ^ 64 → a * 2 ^ (i + i) < 2 ^ 64 → bit_xor a (a * 2 ^ i) * 2 ^ j < 2 ^ 64 → bit_xor (bit_xor a (a * 2 ^ i)) (a * 2 ^ (i + i)) * 2 ^ k < 2 ^ 64
    → (let p : ℕ = bit_xor 1 (2 ^ i) in
    let three : ℕ = bit_xor a (a * 2 ^ i % 2 ^ 64) in
    bit_xor (bit_xor three (three * 2 ^ j % 2 ^ 64)) (bit_xor three (a * 2 ^ (i + i) % 2 ^ 64) * 2 ^ k % 2 ^ 64)
    ≡ product a (bit_xor (bit_xor p (p * 2 ^ j)) (bit_xor p (2 ^ (i + i)) * 2 ^ k)))
shifts_fit i j k a h₁ h₂ h₃ h₄ = rw (mod-eq_of_lt h₁, mod-eq_of_lt h₂, mod-eq_of_lt h₃, mod-eq_of_lt h₄) (shifts_are i j k a)

pub times_powers : (k a : ℕ) → a < 2 ^ 40 → 1 ≤ k → k ≤ 2
    → (let three : ℕ = bit_xor a (a * 2 ^ k % 2 ^ 64) in
    bit_xor (bit_xor three (three * 2 ^ (3 * k) % 2 ^ 64)) (bit_xor three (a * 2 ^ (2 * k) % 2 ^ 64) * 2 ^ (10 * k) % 2 ^ 64) ≡ product a (powers k))
times_powers zero a h l u = absurd (not-suc-le-zero l)
times_powers (suc zero) a h l u =
    let two : bit_xor a (a * 2) < 2 ^ 42 = xor_lt 42 a (a * 2) (omega arith) (omega arith) in
    let three : bit_xor (bit_xor a (a * 2)) (a * 4) < 2 ^ 42 = xor_lt 42 (bit_xor a (a * 2)) (a * 4) two (omega arith) in
    shifts_fit 1 3 10 a (omega arith) (omega arith) (omega arith) (omega arith)
times_powers (suc (suc zero)) a h l u =
    let two : bit_xor a (a * 4) < 2 ^ 44 = xor_lt 44 a (a * 4) (omega arith) (omega arith) in
    let three : bit_xor (bit_xor a (a * 4)) (a * 16) < 2 ^ 44 = xor_lt 44 (bit_xor a (a * 4)) (a * 16) two (omega arith) in
    shifts_fit 2 6 20 a (omega arith) (omega arith) (omega arith) (omega arith)
times_powers (suc (suc (suc k))) a h l u = absurd (not-suc-le-zero (le_of_suc-le-suc (le_of_suc-le-suc u)))

at_25 : remainder x25 ≡ remainder (2 ^ 25)
unfolding remainder divide downwards reduce generator generator_powers polynomial
at_25 = refl

at_50 : remainder x50 ≡ remainder (2 ^ 50)
unfolding remainder divide downwards reduce generator generator_powers polynomial
at_50 = refl

-- ---- a fold

product-moved : (k p h : ℕ) → remainder p ≡ remainder (2 ^ k) → remainder (product h p) ≡ remainder (h * 2 ^ k)
product-moved k p h e = product_congruent p (2 ^ k) e h ∙ ap remainder (product_power k h)

folded-remainder : (k p v : ℕ) → remainder p ≡ remainder (2 ^ k) → remainder (folded k p v) ≡ remainder v
unfolding folded
folded-remainder k p v e =
    remainder-xor (v % 2 ^ k) (product (v / 2 ^ k) p)
    ∙ ap (bit_xor (remainder (v % 2 ^ k))) (product-moved k p (v / 2 ^ k) e)
    ∙ sym (remainder-xor (v % 2 ^ k) (v / 2 ^ k * 2 ^ k))
    ∙ ap remainder (
    xor_comm (v % 2 ^ k) (v / 2 ^ k * 2 ^ k)
    ∙ xor_shifted (v / 2 ^ k) k (v % 2 ^ k) (mod-lt v (pow_pos k))
    ∙ split v k)

pub folded_25 : (v : ℕ) → remainder (folded 25 x25 v) ≡ remainder v
folded_25 v = folded-remainder 25 x25 v at_25

pub folded_50 : (v : ℕ) → remainder (folded 50 x50 v) ≡ remainder v
folded_50 v = folded-remainder 50 x50 v at_50

-- the degree after a fold: v has j coefficients above x^k, and p has degree d
folded-lt : (k p v d j n : ℕ) → p < 2 ^ suc d → v < 2 ^ (k + j) → k ≤ n → d + j ≤ n → folded k p v < 2 ^ n
unfolding folded
folded-lt k p v d j n hp hv hk hd =
    xor_lt n (v % 2 ^ k) (product (v / 2 ^ k) p)
    (lt_of_lt_of_le (mod-lt v (pow_pos k)) (pow_mono {i = k} {j = n} hk))
    (lt_of_lt_of_le (product-below d j (v / 2 ^ k) p hp above) (pow_mono {i = d + j} {j = n} hd))
  where
    above : v / 2 ^ k < 2 ^ j
    above = (div-lt_iff_lt-mul (pow_pos k)).1 (subst (λ (b : ℕ). v < b) (pow-add 2 k j ∙ mul_comm (2 ^ k) (2 ^ j)) hv)

pub first-fold-lt : (v : ℕ) → v < 2 ^ 64 → folded 50 x50 v < 2 ^ 50
first-fold-lt v h = folded-lt 50 x50 v 24 14 50 (lit< tt) h (omega arith) (omega arith)

pub second_fold-lt : (v : ℕ) → v < 2 ^ 50 → folded 25 x25 v < 2 ^ 37
second_fold-lt v h = folded-lt 25 x25 v 12 25 37 (lit< tt) h (omega arith) (omega arith)

pub third_fold-lt : (v : ℕ) → v < 2 ^ 37 → folded 25 x25 v < 2 ^ 25
third_fold-lt v h = folded-lt 25 x25 v 12 12 25 (lit< tt) h (omega arith) (omega arith)

-- ---- 112 coefficients in two words

-- what the code makes of them: `above` stands above x^75, `middle` above x^50 and `below` below it
pub words_folded : (above middle below : ℕ) → middle < 2 ^ 25 → below < 2 ^ 50
    → remainder (bit_xor (bit_xor below (product above x50 % 2 ^ 25 * 2 ^ 25)) (product (bit_xor middle (product above x50 / 2 ^ 25)) x50))
    ≡ remainder ((above * 2 ^ 25 + middle) * 2 ^ 50 + below)
words_folded above middle below hm hb =
    remainder-xor (bit_xor below moved) (product (bit_xor middle upper) x50)
    ∙ ap₂ bit_xor (remainder-xor below moved)
    (product-moved 50 x50 (bit_xor middle upper) at_50 ∙ ap remainder (xor-shl middle upper 50) ∙ remainder-xor (middle * 2 ^ 50) (upper * 2 ^ 50))
    ∙ sym (four (remainder (upper * 2 ^ 50)) (remainder moved) (remainder (middle * 2 ^ 50)) (remainder below))
    ∙ ap (λ (n : ℕ). bit_xor (bit_xor n (remainder (middle * 2 ^ 50))) (remainder below)) (sym top)
    ∙ ap (λ (n : ℕ). bit_xor n (remainder below))
    (sym (remainder-xor (above * 2 ^ 25 * 2 ^ 50) (middle * 2 ^ 50))
    ∙ ap remainder (sym (xor-shl (above * 2 ^ 25) middle 50) ∙ ap (λ (n : ℕ). n * 2 ^ 50) (xor_shifted above 25 middle hm)))
    ∙ sym (remainder-xor ((above * 2 ^ 25 + middle) * 2 ^ 50) below)
    ∙ ap remainder (xor_shifted (above * 2 ^ 25 + middle) 50 below hb)
  where
    c : ℕ
    c = product above x50

    upper : ℕ
    upper = c / 2 ^ 25

    moved : ℕ
    moved = c % 2 ^ 25 * 2 ^ 25

    four : (p q s t : ℕ) → bit_xor (bit_xor (bit_xor p q) s) t ≡ bit_xor (bit_xor t q) (bit_xor s p)
    four p q s t = xor_assoc (bit_xor p q) s t ∙ xor-middle p q s t ∙ ap₂ bit_xor (xor_comm p s) (xor_comm q t) ∙ xor_comm (bit_xor s p) (bit_xor t q)

    parts : bit_xor (upper * 2 ^ 25) (c % 2 ^ 25) ≡ c
    parts = xor_shifted upper 25 (c % 2 ^ 25) (mod-lt c (pow_pos 25)) ∙ split c 25

    top : remainder (above * 2 ^ 25 * 2 ^ 50) ≡ bit_xor (remainder (upper * 2 ^ 50)) (remainder moved)
    top =
        ap remainder (shl_comm above 25 50) ∙ remainder-shl (above * 2 ^ 50) 25
        ∙ ap (λ (r : ℕ). remainder (r * 2 ^ 25)) (sym (product-moved 50 x50 above at_50))
        ∙ sym (remainder-shl c 25)
        ∙ ap (λ (n : ℕ). remainder (n * 2 ^ 25)) (sym parts)
        ∙ ap remainder (xor-shl (upper * 2 ^ 25) (c % 2 ^ 25) 25 ∙ ap (λ (n : ℕ). bit_xor n moved) (shl-shl upper 25 25))
        ∙ remainder-xor (upper * 2 ^ 50) moved

-- the same by the two words
pub words_are : (u l : ℕ) → l < 2 ^ 48
    → (let c : ℕ = product (u / 0x8000000) x50 in
    remainder (bit_xor (bit_xor (u % 4 * 0x1000000000000 + l) (c % 0x2000000 * 0x2000000)) (product (bit_xor (u / 4 % 0x2000000) (c / 0x2000000)) x50))
    ≡ remainder (u * 2 ^ 48 + l))
words_are u l h =
    words_folded (u / 0x8000000) (u / 4 % 0x2000000) (u % 4 * 0x1000000000000 + l) (omega arith) (omega arith) ∙ ap remainder (omega arith)

-- ---- what the function needs that folds a word

pub ruleset word_steps = (folded_25, folded_50, first-fold-lt, second_fold-lt, third_fold-lt)
