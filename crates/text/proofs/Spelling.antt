-- The digits of a value below 16, of bytes, and of a number.
use mathlib.Core.Path.{◌≡◌, refl, ap, ◌∙◌}
use mathlib.Core.Bool.{Bool, true, false, cond}
use mathlib.Core.List.{List, [], ◌∷◌, ◌++◌}
use Prim.Native.Nat.{ℕ, zero, suc, ◌*◌, ◌/◌, ◌%◌, ◌^◌, ◌<◌, ◌≤◌}
use native.Mathlib.Nat.{pow-suc}
use native.Mathlib.Omega.{arith}
use lib.ListN.{length, length-append}
use lib.Dec.{ltb}
use borrow.Author.Tests.{ltb-true, ltb-false, lt-ltb, le-ltb}
use Rattle.text.specs.Digits.{digit_of, hex_text, decimal_within, decimal_text}
use Rattle.text.proofs.Parts.{picked, passed_over}

-- ---- the digits of bytes and of a word

pub hex_text-append : (s t : List ℕ) → hex_text (s ++ t) ≡ hex_text s ++ hex_text t
unfolding hex_text
hex_text-append [] t = refl
hex_text-append (b ∷ s) t = ap (λ (l : List ℕ). digit_of (b / 16) ∷ digit_of (b % 16) ∷ l) (hex_text-append s t)

pub ruleset hex_appending = (hex_text-append)

pub hex_text-length : (s : List ℕ) → length (hex_text s) ≡ 2 * length s
unfolding hex_text
hex_text-length [] = refl
hex_text-length (b ∷ s) = omega (arith, hex_text-length s)

-- ---- decimal digits

-- a bound on the number of digits that is large enough changes nothing
decimal_bound : (k m n : ℕ) → n < k → n < m → decimal_within k n ≡ decimal_within m n
unfolding decimal_within
decimal_bound zero m n h j = absurd (omega arith)
decimal_bound (suc k) zero n h j = absurd (omega arith)
decimal_bound (suc k) (suc m) n h j = cases (ltb n 10) refl (decimal_bound k m (n / 10))
  where
    cases : (t : Bool) → ltb n 10 ≡ t
        → (n / 10 < k → n / 10 < m → decimal_within k (n / 10) ≡ decimal_within m (n / 10))
        → cond t (digit_of n ∷ []) (decimal_within k (n / 10) ++ digit_of (n % 10) ∷ [])
        ≡ cond t (digit_of n ∷ []) (decimal_within m (n / 10) ++ digit_of (n % 10) ∷ [])
    cases true e f = refl
    cases false e f =
        ap (λ (l : List ℕ). l ++ digit_of (n % 10) ∷ [])
        (f (omega (arith, ltb-false n 10 e)) (omega (arith, ltb-false n 10 e)))

pub one-digit : (n : ℕ) → n < 10 → decimal_text n ≡ digit_of n ∷ []
unfolding decimal_text decimal_within
one-digit n h = picked (ltb n 10) (digit_of n ∷ []) (decimal_within n (n / 10) ++ digit_of (n % 10) ∷ []) (lt-ltb n 10 h)

pub more_digits : (n : ℕ) → 10 ≤ n → decimal_text n ≡ decimal_text (n / 10) ++ digit_of (n % 10) ∷ []
unfolding decimal_text decimal_within
more_digits n h =
    passed_over (ltb n 10) (digit_of n ∷ []) (decimal_within n (n / 10) ++ digit_of (n % 10) ∷ []) (le-ltb n 10 h)
    ∙ ap (λ (l : List ℕ). l ++ digit_of (n % 10) ∷ []) (decimal_bound n (suc (n / 10)) (n / 10) (omega arith) (omega arith))

pub ruleset decimal_steps = (one-digit, more_digits)

-- a number below a power of ten has at most that many digits
pub decimal-length : (k n : ℕ) → n < 10 ^ k * 10 → length (decimal_text n) ≤ suc k
decimal-length zero n h = omega (arith, ap length (one-digit n (omega arith)))
decimal-length (suc k) n h = cases (ltb n 10) refl (decimal-length k (n / 10))
  where
    cases : (t : Bool) → ltb n 10 ≡ t → (n / 10 < 10 ^ k * 10 → length (decimal_text (n / 10)) ≤ suc k) → length (decimal_text n) ≤ suc (suc k)
    cases true e f = omega (arith, ap length (one-digit n (ltb-true n 10 e)))
    cases false e f =
        let below : n / 10 < 10 ^ k * 10 = omega (arith, pow-suc 10 k) in
        omega (arith, f below, ap length (more_digits n (ltb-false n 10 e)), length-append (decimal_text (n / 10)) (digit_of (n % 10) ∷ []))

-- a number of 32 bits
pub ten_digits : (n : ℕ) → n < 2 ^ 32 → length (decimal_text n) ≤ 10
ten_digits n h = decimal-length 9 n (omega arith)
