-- A test over all sums of k + 1 powers of x, and what it says of every number with that many digits 1.
use mathlib.Core.Path.{◌≡◌, refl, sym, ap, ap₂, ◌∙◌, subst}
use mathlib.Core.Logic.{◌⊎◌, inl, inr}
use mathlib.Core.List.{List, [], ◌∷◌}
use mathlib.Core.Bool.{Bool, true, false, ◌&&◌}
use Prim.Native.Nat.{ℕ, zero, suc, ◌+◌, ◌*◌, ◌/◌, ◌%◌, ◌^◌, ◌<◌}
use native.Mathlib.Nat.{mod-lt, one-mul, div-add-mod', pow-suc, div-lt_iff_lt-mul, le_of_suc-le-suc, not-suc-le-zero}
use native.Mathlib.Numerals.{one-add}
use native.Mathlib.Omega.{arith}
use lib.Arith.{lt-one}
use lib.Pow.{shl_lt}
use lib.Dec.{T, lit<}
use lib.Bits.{bit_xor, xor_comm, xor_shifted}
use lib.Count.{ones, ones_step}
use Rattle.division.specs.Division.{remainder}
use Rattle.division.proofs.Laws.{double, double_is, xor_assoc, xor-shl, remainder-xor, shl-shl, remainder-shl, remainder-lt, burst_noticed}
use Rattle.notices.proofs.Digits.{two_pos, ones_none, ones_shl}

-- x can be divided out
pub shifted_zero : (a s : ℕ) → remainder (a * 2 ^ s) ≡ 0 → remainder a ≡ 0
shifted_zero a s e = burst_noticed (remainder a) s (remainder-lt a) (sym (remainder-shl a s) ∙ e)

-- the remainders of n powers of x, from one on
unfoldable pub powers : ℕ → ℕ → List ℕ
powers zero r = []
powers (suc n) r = r ∷ powers n (double r)

-- ---- the lowest digit of a number, times x^i

pub low_digit : (d : ℕ) → (d % 2 ≡ 0) ⊎ (d % 2 ≡ 1)
low_digit d = pick (d % 2) (mod-lt d two_pos)
  where
    pick : (t : ℕ) → t < 2 → (t ≡ 0) ⊎ (t ≡ 1)
    pick zero h = inl refl
    pick (suc zero) h = inr refl
    pick (suc (suc t)) h = absurd (not-suc-le-zero (le_of_suc-le-suc (le_of_suc-le-suc h)))

next_power : (i : ℕ) → 2 ^ i * 2 ≡ 2 ^ suc i
next_power i = sym (pow-suc 2 i)

halved : (d i : ℕ) → d / 2 * 2 * 2 ^ i ≡ d / 2 * 2 ^ suc i
halved d i = shl-shl (d / 2) 1 i ∙ ap (λ (k : ℕ). d / 2 * 2 ^ k) (one-add i)

even_shl : (d i : ℕ) → d % 2 ≡ 0 → d * 2 ^ i ≡ d / 2 * 2 ^ suc i
even_shl d i e = ap (λ (n : ℕ). n * 2 ^ i) whole ∙ halved d i
  where
    whole : d ≡ d / 2 * 2
    whole = omega (arith, div-add-mod' d 2)

odd_shl : (d i : ℕ) → d % 2 ≡ 1 → d * 2 ^ i ≡ bit_xor (d / 2 * 2 ^ suc i) (2 ^ i)
odd_shl d i e =
    ap (λ (n : ℕ). n * 2 ^ i) (whole ∙ sym (xor_shifted (d / 2) 1 1 (lit< tt)))
    ∙ xor-shl (d / 2 * 2) 1 i ∙ ap₂ bit_xor (halved d i) (one-mul (2 ^ i))
  where
    whole : d ≡ d / 2 * 2 + 1
    whole = omega (arith, div-add-mod' d 2)

odd_remainder : (r d i : ℕ) → d % 2 ≡ 1
    → bit_xor r (remainder (d * 2 ^ i)) ≡ bit_xor (bit_xor r (remainder (2 ^ i))) (remainder (d / 2 * 2 ^ suc i))
odd_remainder r d i e =
    ap (bit_xor r) (ap remainder (odd_shl d i e) ∙ remainder-xor (d / 2 * 2 ^ suc i) (2 ^ i) ∙ xor_comm (remainder (d / 2 * 2 ^ suc i)) (remainder (2 ^ i)))
    ∙ sym (xor_assoc r (remainder (2 ^ i)) (remainder (d / 2 * 2 ^ suc i)))

-- ---- the test

module _ (f : ℕ → ℕ → Bool) where
  -- f of r and each of the list
  unfoldable pub last : List ℕ → ℕ → Bool
  last [] r = true
  last (p ∷ ps) r = f r p && last ps r

  -- f of r and k of the list, summed, and each later one
  unfoldable pub walk : ℕ → List ℕ → ℕ → Bool
  walk zero ps r = last ps r
  walk (suc k) [] r = true
  walk (suc k) (p ∷ ps) r = walk k ps (bit_xor r p) && walk (suc k) ps r

pub both : (a b : Bool) → T (a && b) → T a × T b
both true b t = (tt, t)
both false b t = absurd t

pub pair : (a b : Bool) → T a → T b → T (a && b)
pair true b s t = t
pair false b s t = absurd s

half_lt : (d n : ℕ) → d < 2 ^ suc n → d / 2 < 2 ^ n
half_lt d n h = (div-lt_iff_lt-mul two_pos).1 (subst (λ (x : ℕ). d < x) (pow-suc 2 n) h)

-- What the test shows: N bounds the places, m counts the digits that are left for f's own ground.
module _ (N m : ℕ) (Q : ℕ → Type 0) (f : ℕ → ℕ → Bool)
    (ok : (r p e : ℕ) → T (f r p) → e < 2 ^ N → ones e ≡ m → Q (bit_xor (bit_xor r p) (remainder e))) where
  abbrev pub Sound : ℕ → ℕ → Type 0
  Sound k n =
      (i r d : ℕ) → n + i ≡ N → d < 2 ^ n → ones d ≡ suc k + m
      → T (walk f k (powers n (remainder (2 ^ i))) r) → Q (bit_xor r (remainder (d * 2 ^ i)))

  none : (k d : ℕ) → d ≡ 0 → ones d ≡ suc k + m → ⊥
  none k d e o = let z : ones d ≡ 0 = ap ones e ∙ ones_none in omega arith

  -- the lowest digit is 0: the test of the later powers
  even_step : (k n : ℕ) → Sound k n → (i r d : ℕ) → suc n + i ≡ N → d < 2 ^ suc n → ones d ≡ suc k + m
      → T (walk f k (powers n (double (remainder (2 ^ i)))) r) → d % 2 ≡ 0 → Q (bit_xor r (remainder (d * 2 ^ i)))
  even_step k n rest i r d en h o t e =
      subst (λ (x : ℕ). Q (bit_xor r (remainder x))) (sym (even_shl d i e))
      (rest (suc i) r (d / 2) (omega arith) (half_lt d n h) (omega (arith, ones_step d))
      (subst (λ (x : ℕ). T (walk f k (powers n x) r)) (double_is (2 ^ i) ∙ ap remainder (next_power i)) t))

  -- the lowest digit is 1: one power fewer
  odd_step : (k n : ℕ) → Sound k n → (i r d : ℕ) → suc n + i ≡ N → d < 2 ^ suc n → ones d ≡ suc (suc k) + m
      → T (walk f k (powers n (double (remainder (2 ^ i)))) (bit_xor r (remainder (2 ^ i)))) → d % 2 ≡ 1 → Q (bit_xor r (remainder (d * 2 ^ i)))
  odd_step k n rest i r d en h o t e =
      subst Q (sym (odd_remainder r d i e))
      (rest (suc i) (bit_xor r (remainder (2 ^ i))) (d / 2) (omega arith) (half_lt d n h) (omega (arith, ones_step d))
      (subst (λ (x : ℕ). T (walk f k (powers n x) (bit_xor r (remainder (2 ^ i))))) (double_is (2 ^ i) ∙ ap remainder (next_power i)) t))

  -- the last one
  last_step : (n i r d : ℕ) → suc n + i ≡ N → d < 2 ^ suc n → ones d ≡ 1 + m
      → T (f r (remainder (2 ^ i))) → d % 2 ≡ 1 → Q (bit_xor r (remainder (d * 2 ^ i)))
  last_step n i r d en h o t e =
      subst Q (sym (odd_remainder r d i e))
      (ok r (remainder (2 ^ i)) (d / 2 * 2 ^ suc i) t
      (subst (λ (x : ℕ). d / 2 * 2 ^ suc i < 2 ^ x) (omega arith) (shl_lt n (suc i) (half_lt d n h)))
      (ones_shl (d / 2) (suc i) ∙ omega (arith, ones_step d)))

  pub walk-sound : (k n : ℕ) → Sound k n
  unfolding walk last powers
  walk-sound k zero = λ i r d en h o t. absurd (none k d (lt-one h) o)
  walk-sound zero (suc n) = λ i r d en h o t. pick (walk-sound zero n) i r d en h o (both (f r (remainder (2 ^ i))) (walk f zero (powers n (double (remainder (2 ^ i)))) r) t) (low_digit d)
    where
      pick : Sound zero n → (i r d : ℕ) → suc n + i ≡ N → d < 2 ^ suc n → ones d ≡ 1 + m
          → T (f r (remainder (2 ^ i))) × T (walk f zero (powers n (double (remainder (2 ^ i)))) r)
          → (d % 2 ≡ 0) ⊎ (d % 2 ≡ 1) → Q (bit_xor r (remainder (d * 2 ^ i)))
      pick rest i r d en h o t (inl e) = even_step zero n rest i r d en h o t.1 e
      pick rest i r d en h o t (inr e) = last_step n i r d en h o t.0 e
  walk-sound (suc k) (suc n) = λ i r d en h o t. pick (walk-sound (suc k) n) (walk-sound k n) i r d en h o (both (walk f k (powers n (double (remainder (2 ^ i)))) (bit_xor r (remainder (2 ^ i)))) (walk f (suc k) (powers n (double (remainder (2 ^ i)))) r) t) (low_digit d)
    where
      pick : Sound (suc k) n → Sound k n → (i r d : ℕ) → suc n + i ≡ N → d < 2 ^ suc n → ones d ≡ suc (suc k) + m
          → T (walk f k (powers n (double (remainder (2 ^ i)))) (bit_xor r (remainder (2 ^ i)))) × T (walk f (suc k) (powers n (double (remainder (2 ^ i)))) r)
          → (d % 2 ≡ 0) ⊎ (d % 2 ≡ 1) → Q (bit_xor r (remainder (d * 2 ^ i)))
      pick rest fewer i r d en h o t (inl e) = even_step (suc k) n rest i r d en h o t.1 e
      pick rest fewer i r d en h o t (inr e) = odd_step k n fewer i r d en h o t.0 e
