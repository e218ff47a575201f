-- The numbers that a round transmits. The idea: a list of the numbers that fail a test is empty, or begins with one of them and goes on
-- with those behind it (`begins`); so a round goes on from number to number.
use mathlib.Core.Path.{◌≡◌, refl, sym, ap, ap₂, ◌∙◌}
use mathlib.Core.Bool.{Bool, true, false, cond}
use mathlib.Core.Logic.{◌⊎◌, inl, inr}
use mathlib.Core.List.{List, [], ◌∷◌}
use Prim.Native.Nat.{ℕ, zero, suc, ◌+◌, ◌-◌, ◌<◌, ◌≤◌}
use native.Mathlib.Nat.{sub-zero}
use native.Mathlib.Omega.{arith}
use lib.ListN.{length}
use Rattle.uplink_elm_sending.specs.Sending.{failing, unacknowledged, taken, round_numbers}
use Rattle.std.specs.Prelude.{Option, Some, None, IsSome, slice_get}
use Rattle.std.specs.Option.{option_or}
use Rattle.uplink_elm_sending.specs.Choosing.{lowest_from, next_from}
use Rattle.uplink_elm.specs.Segments.{is_held}

-- ---- the numbers that fail a test

module _ (f : ℕ → Bool) where
  pub failing-none : (from : ℕ) → failing f from 0 ≡ []
  unfolding failing
  failing-none from = refl

  pub failing-here : (from k : ℕ) → f from ≡ false → failing f from (suc k) ≡ from ∷ failing f (suc from) k
  unfolding failing
  failing-here from k e = ap (λ (t : Bool). cond t (failing f (suc from) k) (from ∷ failing f (suc from) k)) e

  pub failing-past : (from k : ℕ) → f from ≡ true → failing f from (suc k) ≡ failing f (suc from) k
  unfolding failing
  failing-past from k e = ap (λ (t : Bool). cond t (failing f (suc from) k) (from ∷ failing f (suc from) k)) e

  -- a list that is empty, or begins with a number that fails, from `from` on and below `end`, and goes on behind it
  unfoldable pub Begins : ℕ → ℕ → List ℕ → Type 0
  Begins from end l =
      (l ≡ []) ⊎ ((n : ℕ) × (from ≤ n) × (n < end) × (f n ≡ false) × (l ≡ n ∷ failing f (suc n) (end - suc n)))

  pub begins : (k from end : ℕ) → from + k ≡ end → Begins from end (failing f from k)
  unfolding Begins
  begins zero from end h = inl (failing-none from)
  begins (suc k) from end h = by (f from) refl (begins k (suc from) end (omega arith))
    where
      left : k ≡ end - suc from
      left = omega arith

      by : (t : Bool) → f from ≡ t → Begins (suc from) end (failing f (suc from) k) → Begins from end (failing f from (suc k))
      by true e (inl p) = inl (failing-past from k e ∙ p)
      by true e (inr (n, ge, lt, fails, p)) = inr (n, omega arith, lt, fails, failing-past from k e ∙ p)
      by false e p = inr (from, omega arith, omega arith, e, failing-here from k e ∙ ap (λ (j : ℕ). from ∷ failing f (suc from) j) left)

-- ---- the lowest of them, number by number

pub lowest_here : (acknowledgement count n : ℕ) → n < count → is_held acknowledgement n ≡ false → lowest_from (is_held acknowledgement) count n ≡ Some n
unfolding lowest_from
lowest_here a count n h e =
    let more : count - n ≡ suc (count - suc n) = omega arith in
    ap (λ (k : ℕ). slice_get (failing (is_held a) n k) 0) more ∙ ap (λ (l : List ℕ). slice_get l 0) (failing-here (is_held a) n (count - suc n) e)

pub lowest_past : (acknowledgement count n : ℕ) → n < count → is_held acknowledgement n ≡ true
    → lowest_from (is_held acknowledgement) count n ≡ lowest_from (is_held acknowledgement) count (n + 1)
unfolding lowest_from
lowest_past a count n h e =
    let more : count - n ≡ suc (count - suc n) = omega arith in
    let next : suc n ≡ n + 1 = omega arith in
    ap (λ (k : ℕ). slice_get (failing (is_held a) n k) 0) more ∙ ap (λ (l : List ℕ). slice_get l 0) (failing-past (is_held a) n (count - suc n) e)
    ∙ ap (λ (k : ℕ). slice_get (failing (is_held a) k (count - k)) 0) next

pub lowest_none : (acknowledgement count n : ℕ) → count ≤ n → lowest_from (is_held acknowledgement) count n ≡ None
unfolding lowest_from
lowest_none a count n h =
    let none : count - n ≡ 0 = omega arith in
    ap (λ (k : ℕ). slice_get (failing (is_held a) n k) 0) none ∙ ap (λ (l : List ℕ). slice_get l 0) (failing-none (is_held a) n)

-- what the search for a number needs
pub ruleset looking = (lowest_here, lowest_past, lowest_none)

-- ---- s of them

pub taken_none : (s : ℕ) → taken [] [] s ≡ []
unfolding taken
taken_none zero = refl
taken_none (suc s) = refl

pub taken_over : (whole rest : List ℕ) → taken whole rest 0 ≡ []
unfolding taken
taken_over whole rest = refl

taken-one : (whole : List ℕ) (n : ℕ) (rest : List ℕ) (s : ℕ) → taken whole (n ∷ rest) (suc s) ≡ n ∷ taken whole rest s
unfolding taken
taken-one whole n rest s = refl

taken_again : (n : ℕ) (whole : List ℕ) (s : ℕ) → taken (n ∷ whole) [] (suc s) ≡ n ∷ taken (n ∷ whole) whole s
unfolding taken
taken_again n whole s = refl

pub taken-length : (whole rest : List ℕ) (s : ℕ) → 0 < length whole → length (taken whole rest s) ≡ s
unfolding taken
taken-length whole rest zero h = refl
taken-length whole (n ∷ rest) (suc s) h = ap suc (taken-length whole rest s h)
taken-length [] [] (suc s) h = absurd (omega arith)
taken-length (n ∷ whole) [] (suc s) h = ap suc (taken-length (n ∷ whole) whole s h)

pub taken-le : (whole rest : List ℕ) (s : ℕ) → length (taken whole rest s) ≤ s
unfolding taken
taken-le whole rest zero = omega arith
taken-le whole (n ∷ rest) (suc s) = omega (arith, taken-le whole rest s)
taken-le [] [] (suc s) = omega arith
taken-le (n ∷ whole) [] (suc s) = omega (arith, taken-le (n ∷ whole) whole s)

-- the next number of a round, and those behind it
unfoldable pub Next : (ℕ → Bool) → ℕ → ℕ → ℕ → ℕ → Type 0
Next f count from s n =
    (next_from f count from ≡ Some n) × (n < count)
    × (taken (failing f 0 count) (failing f from (count - from)) (suc s) ≡ n ∷ taken (failing f 0 count) (failing f (suc n) (count - suc n)) s)

next-taken : (f : ℕ → Bool) (count from s : ℕ) → from ≤ count → 0 < length (failing f 0 count) → (n : ℕ) × Next f count from s n
unfolding next_from lowest_from Begins Next
next-taken f count from s le some = by (begins f (count - from) from count (omega arith)) (begins f count 0 count (omega arith))
  where
    whole : List ℕ
    whole = failing f 0 count

    by : Begins f from count (failing f from (count - from)) → Begins f 0 count (failing f 0 count) → (n : ℕ) × Next f count from s n
    by (inr (n, lo, lt, fails, p)) q = (
      n,
      (
        ap (λ (l : List ℕ). option_or (slice_get l 0) (slice_get (failing f 0 (count - 0)) 0)) p,
        lt,
        ap (λ (l : List ℕ). taken whole l (suc s)) p ∙ taken-one whole n _ s,
      ),
    )
    by (inl p) (inl q) = absurd (omega (arith, some, ap length q))
    by (inl p) (inr (n, lo, lt, fails, q)) = (
      n,
      (
        ap (λ (l : List ℕ). option_or (slice_get l 0) (slice_get (failing f 0 (count - 0)) 0)) p ∙ ap (λ (k : ℕ). slice_get (failing f 0 k) 0) (sub-zero count)
            ∙ ap (λ (l : List ℕ). slice_get l 0) q,
        lt,
        ap₂ (λ (w l : List ℕ). taken w l (suc s)) q p ∙ taken_again n _ s ∙ ap (λ (w : List ℕ). n ∷ taken w (failing f (suc n) (count - suc n)) s) (sym q),
      ),
    )

-- ---- a round

lowest_of_all : (f : ℕ → Bool) (count : ℕ) → lowest_from f count 0 ≡ slice_get (failing f 0 count) 0
unfolding lowest_from
lowest_of_all f count = ap (λ (k : ℕ). slice_get (failing f 0 k) 0) (sub-zero count)

pub round-none : (acknowledgement count s : ℕ) → None ≡ lowest_from (is_held acknowledgement) count 0 → 0 ≡ length (round_numbers acknowledgement count s)
unfolding round_numbers unacknowledged
round-none a count s e = by (failing (is_held a) 0 count) (e ∙ lowest_of_all (is_held a) count)
  where
    by : (l : List ℕ) → None ≡ slice_get l 0 → 0 ≡ length (taken l l s)
    by [] h = sym (ap length (taken_none s))
    by (n ∷ l) h = absurd (cc)

pub round_some : (acknowledgement count s n : ℕ) → Some n ≡ lowest_from (is_held acknowledgement) count 0 → s ≡ length (round_numbers acknowledgement count s)
unfolding round_numbers unacknowledged
round_some a count s n e = by (failing (is_held a) 0 count) (e ∙ lowest_of_all (is_held a) count)
  where
    by : (l : List ℕ) → Some n ≡ slice_get l 0 → s ≡ length (taken l l s)
    by [] h = absurd (cc)
    by (k ∷ l) h = sym (taken-length (k ∷ l) (k ∷ l) s (omega arith))

pub ruleset choosing = (round-none, round_some)

-- where a round has transmissions, a number is not acknowledged
round-has : (acknowledgement count s : ℕ) → 0 < length (round_numbers acknowledgement count s) → 0 < length (failing (is_held acknowledgement) 0 count)
unfolding round_numbers unacknowledged
round-has a count s h = by (failing (is_held a) 0 count) h
  where
    by : (l : List ℕ) → 0 < length (taken l l s) → 0 < length l
    by [] g = absurd (omega (arith, g, ap length (taken_none s)))
    by (n ∷ l) g = omega arith

pub round_is : (acknowledgement count s : ℕ)
    → round_numbers acknowledgement count s ≡ taken (failing (is_held acknowledgement) 0 count) (failing (is_held acknowledgement) 0 (count - 0)) s
unfolding round_numbers unacknowledged
round_is a count s = ap (λ (k : ℕ). taken (failing (is_held a) 0 count) (failing (is_held a) 0 k) s) (sym (sub-zero count))

pub round_le : (acknowledgement count s : ℕ) → length (round_numbers acknowledgement count s) ≤ s
unfolding round_numbers
round_le a count s = taken-le _ _ s

-- a round of as many as another has is that one
pub round_again : (acknowledgement count s n : ℕ) → n ≡ length (round_numbers acknowledgement count s)
    → round_numbers acknowledgement count n ≡ round_numbers acknowledgement count s
unfolding round_numbers unacknowledged
round_again a count s n e = by (failing (is_held a) 0 count) e
  where
    by : (l : List ℕ) → n ≡ length (taken l l s) → taken l l n ≡ taken l l s
    by [] h = taken_none n ∙ sym (taken_none s)
    by (k ∷ l) h = ap (taken (k ∷ l) (k ∷ l)) (h ∙ taken-length (k ∷ l) (k ∷ l) s (omega arith))

-- with its own length named
pub as_many : (acknowledgement count s : ℕ) → round_numbers acknowledgement count (length (round_numbers acknowledgement count s)) ≡ round_numbers acknowledgement count s
as_many a count s = round_again a count s _ refl

-- what the call of a round needs
pub ruleset rounding = (round_le, as_many)

-- the k numbers of a round that are left, from `from` on
unfoldable pub left_of_round : (ℕ → Bool) → ℕ → ℕ → ℕ → List ℕ
left_of_round f count from k = taken (failing f 0 count) (failing f from (count - from)) k

-- what is left of a round, by the next number
abbrev goes_on : (ℕ → Bool) → ℕ → ℕ → Option ℕ → List ℕ
goes_on f count k None = []
goes_on f count k (Some j) = j ∷ left_of_round f count (j + 1) k

pub left_at_start : (acknowledgement count n : ℕ) → left_of_round (is_held acknowledgement) count 0 n ≡ round_numbers acknowledgement count n
unfolding left_of_round
left_at_start a count n = sym (round_is a count n)

pub left_at_end : (acknowledgement count from k : ℕ) → k ≡ 0 → left_of_round (is_held acknowledgement) count from k ≡ []
unfolding left_of_round
left_at_end a count from k none = ap (taken _ _) none ∙ taken_over _ _

pub left_next : (acknowledgement count n from k : ℕ) → from ≤ count → 0 < k → k ≤ n → length (round_numbers acknowledgement count n) ≡ n
    → left_of_round (is_held acknowledgement) count from k ≡ goes_on (is_held acknowledgement) count (k - 1) (next_from (is_held acknowledgement) count from)
unfolding left_of_round Next
left_next a count n from k le some few long =
    let t = next-taken (is_held a) count from (k - 1) le (round-has a count n (omega (arith, long))) in
    let more : k ≡ suc (k - 1) = omega arith in
    let next : suc t.0 ≡ t.0 + 1 = omega arith in
    ap (taken (failing (is_held a) 0 count) (failing (is_held a) from (count - from))) more ∙ t.1.2
    ∙ ap (λ (j : ℕ). t.0 ∷ taken (failing (is_held a) 0 count) (failing (is_held a) j (count - j)) (k - 1)) next
    ∙ sym (ap (goes_on (is_held a) count (k - 1)) t.1.0)

pub next_some : (acknowledgement count n from : ℕ) → from ≤ count → 0 < n → length (round_numbers acknowledgement count n) ≡ n → IsSome (next_from (is_held acknowledgement) count from)
unfolding Next
next_some a count n from le some long =
    let t = next-taken (is_held a) count from 0 le (round-has a count n (omega (arith, long))) in
    rw t.1.0 refl

-- what the loop of a round needs
pub ruleset going_on = (left_at_start, left_at_end, left_next, next_some)

pub round_by_test : (acknowledgement count s : ℕ)
    → round_numbers acknowledgement count s ≡ taken (failing (is_held acknowledgement) 0 count) (failing (is_held acknowledgement) 0 count) s
unfolding round_numbers unacknowledged
round_by_test a count s = refl
