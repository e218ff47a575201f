-- Facts by one computed test: about every number of w bits, and about every entry of a table.
--
-- The test of the numbers goes by their binary digits, so that it is only w calls deep. A table is compared with the list of
-- f 0, f 1, …, which the checker computes; its literal stands in the source alone.
use mathlib.Core.Path.{◌≡◌, refl, sym, ap, ◌∙◌}
use mathlib.Core.Bool.{Bool, true, false, not, ◌&&◌, ◌||◌, and-eq-true_iff}
use mathlib.Core.Logic.{◌⊎◌, inl, inr}
use Prim.Native.Nat.{ℕ, zero, suc, ◌+◌, ◌*◌, ◌/◌, ◌%◌, ◌^◌, ◌<◌}
use native.Mathlib.Nat.{pow-suc, zero-add, add-zero, add-suc, suc-add, not-suc-le-zero, le_of_suc-le-suc}
use lib.ListN.{get_or}
use mathlib.Core.List.{List, [], ◌∷◌}
use native.Mathlib.Omega.{arith}
use Rattle.outcome.proofs.Small.{never}

-- f passes at every number below 2^w
unfoldable pub every : ℕ → (ℕ → Bool) → Bool
every zero f = f 0
every (suc w) f = every w (λ h. f (h * 2) && f (h * 2 + 1))

even_or_odd : (k : ℕ) → (k / 2 * 2 ≡ k) ⊎ (k / 2 * 2 + 1 ≡ k)
even_or_odd k = by (k % 2) refl
  where
    by : (r : ℕ) → k % 2 ≡ r → (k / 2 * 2 ≡ k) ⊎ (k / 2 * 2 + 1 ≡ k)
    by zero e = inl (omega arith)
    by (suc r) e = inr (omega arith)

pub tested : (w : ℕ) (f : ℕ → Bool) → every w f ≡ true → (k : ℕ) → k < 2 ^ w → f k ≡ true
unfolding every
tested zero f e k h = let z : 0 ≡ k = omega arith in ap f (sym z) ∙ e
tested (suc w) f e k h =
    by (even_or_odd k) ((and-eq-true_iff (f (k / 2 * 2)) (f (k / 2 * 2 + 1))).0 (tested w (λ h. f (h * 2) && f (h * 2 + 1)) e (k / 2) half))
  where
    half : k / 2 < 2 ^ w
    half = let s : 2 ^ suc w ≡ 2 ^ w * 2 = pow-suc 2 w in omega arith

    by : (k / 2 * 2 ≡ k) ⊎ (k / 2 * 2 + 1 ≡ k) → (f (k / 2 * 2) ≡ true) × (f (k / 2 * 2 + 1) ≡ true) → f k ≡ true
    by (inl p) pair = ap f (sym p) ∙ pair.0
    by (inr p) pair = ap f (sym p) ∙ pair.1

-- ---- a table

-- n entries from f i on
unfoldable pub tabulate : (ℕ → ℕ) → ℕ → ℕ → List ℕ
tabulate f i zero = []
tabulate f i (suc n) = f i ∷ tabulate f (suc i) n

from : (f : ℕ → ℕ) (i n k : ℕ) → k < n → get_or (tabulate f i n) k 0 ≡ f (i + k)
unfolding tabulate
from f i zero k h = absurd (not-suc-le-zero h)
from f i (suc n) zero h = ap f (sym (add-zero i))
from f i (suc n) (suc k) h = from f (suc i) n k (le_of_suc-le-suc h) ∙ ap f (suc-add i k ∙ sym (add-suc i k))

pub tabulated : (f : ℕ → ℕ) (n k : ℕ) → k < n → get_or (tabulate f 0 n) k 0 ≡ f k
tabulated f n k h = from f 0 n k h ∙ ap f (zero-add k)

-- ---- tests joined

-- a test that needs to hold only where another does
pub when : (a b : Bool) → (not a || b) ≡ true → a ≡ true → b ≡ true
when true b e p = e
when false b e p = absurd (never p refl)

pub both : (a b : Bool) → (a && b) ≡ true → (a ≡ true) × (b ≡ true)
both a b = (and-eq-true_iff a b).0
