-- The numbers held. The idea: a test of all numbers below one says that each passes, and is said by that; and a bit of an or is the
-- greater of the two bits, so that a number more is one bit more.
use mathlib.Core.Path.{◌≡◌, refl, sym, ap, ap₂, ◌∙◌, subst}
use mathlib.Core.Bool.{Bool, true, false, ◌&&◌}
use mathlib.Core.Logic.{◌⊎◌, inl, inr}
use Prim.Native.Nat.{ℕ, zero, suc, ◌+◌, ◌-◌, ◌*◌, ◌/◌, ◌%◌, ◌^◌, ◌<◌, ◌≤◌, max}
use native.Mathlib.Nat.{not-suc-le-zero, le_of_suc-le-suc, eq-or-lt_of_le, max-le, max-zero, one-mul, zero-add, zero-div, pow-suc}
use native.Mathlib.Omega.{arith}
use lib.Bits.{bit_or, or_step, or_shr, or_lt, or_zero_l}
use lib.Dec.{eqb, ltb, lit<}
use lib.Pow.{shl_exact, pow-lt, pow-add, shl-shr, shr_lt}
use borrow.Author.Tests.{eqb-true, eq-eqb, ltb-true, ltb-false, lt-ltb, le-ltb}
use Rattle.outcome.proofs.Laws.{never, both, positive}
use Rattle.uplink_elm.specs.declared.Receiver.{Receiver}
use Rattle.uplink_elm.specs.Segments.{bit_of, is_held, with_number, all_below}
use Rattle.uplink_elm.specs.Receiving.{is_whole}

-- ---- the bit of a number: none is lost by the shift

pub bit_exact : (n : ℕ) → n < 16 → 1 * 2 ^ (15 - n) % 2 ^ 16 ≡ bit_of n
unfolding bit_of
bit_exact n h = shl_exact 1 (15 - n) 16 (lit< tt) (omega arith) ∙ one-mul _

-- ---- all numbers below one

pub each_below : (f : ℕ → Bool) (n : ℕ) → all_below f n ≡ true → (k : ℕ) → k < n → f k ≡ true
unfolding all_below
each_below f zero e k h = absurd (not-suc-le-zero h)
each_below f (suc n) e k h = by (eq-or-lt_of_le (le_of_suc-le-suc h)) (each_below f n (both (all_below f n) (f n) e).0 k)
  where
    by : (k ≡ n) ⊎ (k < n) → (k < n → f k ≡ true) → f k ≡ true
    by (inl p) below = ap f p ∙ (both (all_below f n) (f n) e).1
    by (inr l) below = below l

-- one that is not held is enough
pub lacks : (held n k : ℕ) → is_held held k ≡ false → k < n → all_below (is_held held) n ≡ false
lacks held n k e h = by (all_below (is_held held) n) refl
  where
    by : (b : Bool) → all_below (is_held held) n ≡ b → b ≡ false
    by true f = absurd (never (each_below (is_held held) n f k h) e)
    by false f = refl

pub next-below : (f : ℕ → Bool) (n : ℕ) → all_below f n ≡ true → f n ≡ true → all_below f (suc n) ≡ true
unfolding all_below
next-below f n e g = ap₂ ◌&&◌ e g

pub all-below : (f : ℕ → Bool) (n : ℕ) → ((k : ℕ) → k < n → f k ≡ true) → all_below f n ≡ true
unfolding all_below
all-below f zero h = refl
all-below f (suc n) h = next-below f n (all-below f n (λ k l. h k (omega arith))) (h n (omega arith))

-- ---- a number held is one of 16

pub held-lt : (held n : ℕ) → is_held held n ≡ true → n < 16
unfolding is_held
held-lt held n e = ltb-true n 16 (both (ltb n 16) (eqb (held / 2 ^ (15 - n) % 2) 1) e).0

pub held_is : (held n : ℕ) → n < 16 → eqb (held / 2 ^ (15 - n) % 2) 1 ≡ is_held held n
unfolding is_held
held_is held n h = sym (ap (λ (t : Bool). t && eqb (held / 2 ^ (15 - n) % 2) 1) (lt-ltb n 16 h))

pub none-held : (held n : ℕ) → 16 ≤ n → false ≡ is_held held n
unfolding is_held
none-held held n h = sym (ap (λ (t : Bool). t && eqb (held / 2 ^ (15 - n) % 2) 1) (le-ltb n 16 h))

-- ---- whether a message is whole

pub whole-opened : (r : Receiver) (t : Bool) → r.opened ≡ true → t ≡ all_below (is_held r.held) (suc r.last) → t ≡ is_whole r
unfolding is_whole
whole-opened r t e f = f ∙ sym (ap (λ (o : Bool). o && all_below (is_held r.held) (suc r.last)) e)

pub whole-unopened : (r : Receiver) → r.opened ≡ false → false ≡ is_whole r
unfolding is_whole
whole-unopened r e = sym (ap (λ (o : Bool). o && all_below (is_held r.held) (suc r.last)) e)

pub whole_of_held : (r : Receiver) → r.opened ≡ true → ((k : ℕ) → k ≤ r.last → is_held r.held k ≡ true) → is_whole r ≡ true
whole_of_held r e h = sym (whole-opened r true e (sym (all-below (is_held r.held) (suc r.last) (λ k l. h k (omega arith)))))

-- ---- single bits

remainder_of_two : (q m : ℕ) → m ≤ 1 → (q * 2 + m) % 2 ≡ m
remainder_of_two q m h = omega arith

or_bit : (a b k : ℕ) → bit_or a b / 2 ^ k % 2 ≡ max (a / 2 ^ k % 2) (b / 2 ^ k % 2)
or_bit a b k = ap (λ (x : ℕ). x % 2) (or_shr a b k) ∙ lowest (a / 2 ^ k) (b / 2 ^ k)
  where
    lowest : (x y : ℕ) → bit_or x y % 2 ≡ max (x % 2) (y % 2)
    lowest x y =
        ap (λ (z : ℕ). z % 2) (or_step x y)
        ∙ remainder_of_two (bit_or (x / 2) (y / 2)) (max (x % 2) (y % 2)) (max-le (omega arith) (omega arith))

power_here : (k : ℕ) → 2 ^ k / 2 ^ k % 2 ≡ 1
power_here k = ap (λ (x : ℕ). x % 2) (ap (λ (x : ℕ). x / 2 ^ k) (sym (one-mul (2 ^ k))) ∙ shl-shr 1 k)

power_below : (j k : ℕ) → j < k → 2 ^ j / 2 ^ k % 2 ≡ 0
power_below j k h =
    let small : 2 ^ j / 2 ^ k < 2 ^ 0 = shr_lt 0 k (subst (λ (x : ℕ). 2 ^ j < 2 ^ x) (sym (zero-add k)) (pow-lt h)) in
    omega (arith, small)

power_above : (i k : ℕ) → 2 ^ (suc i + k) / 2 ^ k % 2 ≡ 0
power_above i k =
    ap (λ (x : ℕ). x / 2 ^ k % 2) (pow-add 2 (suc i) k) ∙ ap (λ (x : ℕ). x % 2) (shl-shr (2 ^ suc i) k)
    ∙ ap (λ (x : ℕ). x % 2) (pow-suc 2 i) ∙ even (2 ^ i)
  where
    even : (x : ℕ) → x * 2 % 2 ≡ 0
    even x = omega arith

power_apart : (j k : ℕ) → (j ≡ k → ⊥) → 2 ^ j / 2 ^ k % 2 ≡ 0
power_apart j k h = by (ltb j k) refl
  where
    by : (t : Bool) → ltb j k ≡ t → 2 ^ j / 2 ^ k % 2 ≡ 0
    by true e = power_below j k (ltb-true j k e)
    by false e =
        let above : suc (j - k - 1) + k ≡ j = omega (arith, ltb-false j k e, positive (j - k) (λ z. h (omega (arith, z, ltb-false j k e)))) in
        ap (λ (x : ℕ). 2 ^ x / 2 ^ k % 2) (sym above) ∙ power_above (j - k - 1) k

-- ---- a number more

module _ (held n : ℕ) (small : n < 16) where
  pub with-here : is_held (with_number held n) n ≡ true
  unfolding with_number bit_of
  with-here =
      sym (held_is (bit_or held (2 ^ (15 - n))) n small)
      ∙ eq-eqb _ 1 (or_bit held (2 ^ (15 - n)) (15 - n) ∙ ap (max (held / 2 ^ (15 - n) % 2)) (power_here (15 - n)) ∙ top (held / 2 ^ (15 - n) % 2) (omega arith))
    where
      top : (x : ℕ) → x < 2 → max x 1 ≡ 1
      top zero l = refl
      top (suc zero) l = refl
      top (suc (suc x)) l = absurd (omega arith)

  pub with_other : (k : ℕ) → (k ≡ n → ⊥) → is_held (with_number held n) k ≡ is_held held k
  unfolding with_number bit_of
  with_other k h = by (ltb k 16) refl
    where
      same : k < 16 → with_number held n / 2 ^ (15 - k) % 2 ≡ held / 2 ^ (15 - k) % 2
      same l =
          or_bit held (2 ^ (15 - n)) (15 - k)
          ∙ ap (max (held / 2 ^ (15 - k) % 2)) (power_apart (15 - n) (15 - k) (λ e. h (omega (arith, e, small, l)))) ∙ max-zero (held / 2 ^ (15 - k) % 2)

      by : (t : Bool) → ltb k 16 ≡ t → is_held (with_number held n) k ≡ is_held held k
      by true e =
          let l : k < 16 = ltb-true k 16 e in
          sym (held_is (with_number held n) k l) ∙ ap (λ (x : ℕ). eqb x 1) (same l) ∙ held_is held k l
      by false e = sym (none-held (with_number held n) k (ltb-false k 16 e)) ∙ none-held held k (ltb-false k 16 e)

pub with-lt : (held n : ℕ) → held < 2 ^ 16 → with_number held n < 2 ^ 16
unfolding with_number bit_of
with-lt held n h = or_lt 16 held (2 ^ (15 - n)) h (pow-lt {j = 16} (omega arith))

-- the first number is one more than none
pub first-number : (n : ℕ) → bit_of n ≡ with_number 0 n
unfolding with_number
first-number n = sym (or_zero_l (bit_of n))

pub nothing_held : (k : ℕ) → is_held 0 k ≡ false
nothing_held k = by (is_held 0 k) refl
  where
    by : (t : Bool) → is_held 0 k ≡ t → t ≡ false
    by true e = absurd (none (eqb-true _ 1 (held_is 0 k (held-lt 0 k e) ∙ e)))
      where
        none : 0 / 2 ^ (15 - k) % 2 ≡ 1 → ⊥
        none q = omega (arith, q, zero-div (2 ^ (15 - k)))
    by false e = refl
