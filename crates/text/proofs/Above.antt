-- Texts whose bytes are all above a given byte, so that it parts none of them: digits are above the space and the line feed.
use mathlib.Core.Path.{◌≡◌, refl, ap₂}
use mathlib.Core.Bool.{Bool, true, false, cond, ◌&&◌, and-eq-true_iff}
use mathlib.Core.List.{List, [], ◌∷◌, ◌++◌}
use Prim.Native.Nat.{ℕ, zero, suc, ◌+◌, ◌/◌, ◌%◌, ◌<◌}
use native.Mathlib.Omega.{arith}
use lib.Dec.{ltb}
use borrow.Author.Tests.{ltb-true, lt-ltb}
use Rattle.text.specs.Digits.{digit_of, hex_text, decimal_within, decimal_text}

unfoldable pub above : ℕ → List ℕ → Bool
above b [] = true
above b (x ∷ s) = ltb b x && above b s

pub above-cons : (b x : ℕ) (s : List ℕ) → b < x → above b s ≡ true → above b (x ∷ s) ≡ true
unfolding above
above-cons b x s h e = ap₂ ◌&&◌ (lt-ltb b x h) e

pub above-parts : (b x : ℕ) (s : List ℕ) → above b (x ∷ s) ≡ true → (b < x) × (above b s ≡ true)
unfolding above
above-parts b x s e =
    let both = (and-eq-true_iff (ltb b x) (above b s)).0 e in
    (ltb-true b x both.0, both.1)

pub above-append : (b : ℕ) (s t : List ℕ) → above b s ≡ true → above b t ≡ true → above b (s ++ t) ≡ true
above-append b [] t e f = f
above-append b (x ∷ s) t e f =
    let parts = above-parts b x s e in
    above-cons b x (s ++ t) parts.0 (above-append b s t parts.1 f)

-- above a byte, so above a lower one
pub above_lower : (a b : ℕ) (s : List ℕ) → a < b → above b s ≡ true → above a s ≡ true
unfolding above
above_lower a b [] h e = refl
above_lower a b (x ∷ s) h e =
    let parts = above-parts b x s e in
    above-cons a x s (omega arith) (above_lower a b s h parts.1)

-- ---- digits, of which the byte 48 is the lowest

digit-above : (b v : ℕ) → b < 48 → b < digit_of v
unfolding digit_of
digit-above b v h = cases (ltb v 10)
  where
    cases : (t : Bool) → b < cond t (48 + v) (55 + v)
    cases true = omega arith
    cases false = omega arith

pub hex_above : (b : ℕ) (s : List ℕ) → b < 48 → above b (hex_text s) ≡ true
unfolding hex_text above
hex_above b [] h = refl
hex_above b (x ∷ s) h =
    above-cons b (digit_of (x / 16)) (digit_of (x % 16) ∷ hex_text s) (digit-above b (x / 16) h)
    (above-cons b (digit_of (x % 16)) (hex_text s) (digit-above b (x % 16) h) (hex_above b s h))

within_above : (b k n : ℕ) → b < 48 → above b (decimal_within k n) ≡ true
unfolding decimal_within above
within_above b zero n h = refl
within_above b (suc k) n h = cases (ltb n 10) (within_above b k (n / 10) h)
  where
    one : (v : ℕ) → above b (digit_of v ∷ []) ≡ true
    one v = above-cons b (digit_of v) [] (digit-above b v h) refl

    cases : (t : Bool) → above b (decimal_within k (n / 10)) ≡ true
        → above b (cond t (digit_of n ∷ []) (decimal_within k (n / 10) ++ digit_of (n % 10) ∷ [])) ≡ true
    cases true e = one n
    cases false e = above-append b (decimal_within k (n / 10)) (digit_of (n % 10) ∷ []) e (one (n % 10))

pub decimal-above : (b n : ℕ) → b < 48 → above b (decimal_text n) ≡ true
unfolding decimal_text
decimal-above b n h = within_above b (suc n) n h
