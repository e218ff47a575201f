-- The tests of the search against the relation of document 01 (specs/Changes.antt): a change fits in a window exactly when
-- it is the candidate's and the test of the window's place passes; and the highest place is the lowest window.
use mathlib.Core.Path.{◌≡◌, refl, sym, ap, ap₂, ◌∙◌, subst}
use mathlib.Core.Logic.{◌⊎◌, inl, inr}
use mathlib.Core.Bool.{Bool, true, false, not, ◌&&◌}
use mathlib.Core.List.{List}
use Prim.Native.Nat.{ℕ, zero, suc, ◌+◌, ◌-◌, ◌*◌, ◌/◌, ◌%◌, ◌^◌, ◌<◌, ◌≤◌}
use native.Mathlib.Nat.{mod-lt, add-zero, zero-add, le_of_suc-le-suc, not-suc-le-zero, eq-or-lt_of_le}
use native.Mathlib.Omega.{arith}
use lib.Bits.{bit_and, bit_xor, and_block, xor_self}
use lib.Count.{ones, ones_cat, ones-ones}
use lib.Dec.{eqb}
use lib.Pow.{pow_pos, split, shl-shr}
use borrow.Author.Tests.{eqb-true, eq-eqb, ltb-true, ltb-false}
use Rattle.division.specs.Division.{remainder}
use Rattle.message.specs.Message.{number, first_bit_agrees}
use Rattle.division.proofs.Laws.{xor_cancel, xor_move, remainder-xor, window_unique}
use Rattle.message.specs.Bits.{last_window, place, inverted}
use Rattle.outcome.proofs.Laws.{never, both}
use Rattle.division.specs.Division.{Carries}
use Rattle.sensor.specs.Changes.{OnLow, Fit, marks_at, low_marks}
use Rattle.sensor.specs.Verdicts.{first_of, highest, syndrome, candidate, change_at, dense_at, passes, fits_at, differs_at}
use Rattle.sensor.specs.Verdicts.Found.{nowhere, at}
use Rattle.sensor.proofs.Fits.{candidate-lt, candidate_law, candidate_pos}
use Rattle.sensor.proofs.Deciding.{syndrome-lt}

-- ---- a pattern at a place and the marks of the window there

and-shl : (p c e : ℕ) → p < 2 ^ 24 → bit_and (p * 2 ^ e) c ≡ bit_and p (c / 2 ^ e % 2 ^ 24) * 2 ^ e
and-shl p c e h =
    ap₂ bit_and (sym (add-zero (p * 2 ^ e))) (sym (split c e))
    ∙ and_block e p (c / 2 ^ e) 0 (c % 2 ^ e) (pow_pos e) (mod-lt c (pow_pos e))
    ∙ add-zero (bit_and p (c / 2 ^ e) * 2 ^ e)
    ∙ ap (λ (n : ℕ). n * 2 ^ e) (low p (c / 2 ^ e) h)
  where
    low : (p x : ℕ) → p < 2 ^ 24 → bit_and p x ≡ bit_and p (x % 2 ^ 24)
    low p x h =
        ap₂ bit_and (sym (zero-add p)) (sym (split x 24))
        ∙ and_block 24 0 (x / 2 ^ 24) p (x % 2 ^ 24) h (mod-lt x (pow_pos 24))
        ∙ zero-add (bit_and p (x % 2 ^ 24))

on-low→ : (c : List ℕ) (p e : ℕ) → p < 2 ^ 24 → OnLow c (p * 2 ^ e) → bit_and p (marks_at c e) ≡ p
unfolding OnLow marks_at
on-low→ c p e h o =
    sym (shl-shr (bit_and p (number c / 2 ^ e % 2 ^ 24)) e)
    ∙ ap (λ (n : ℕ). n / 2 ^ e) (sym (and-shl p (number c) e h) ∙ o) ∙ shl-shr p e

on-low← : (c : List ℕ) (p e : ℕ) → p < 2 ^ 24 → bit_and p (marks_at c e) ≡ p → OnLow c (p * 2 ^ e)
unfolding OnLow marks_at
on-low← c p e h o = and-shl p (number c) e h ∙ ap (λ (n : ℕ). n * 2 ^ e) o

-- ---- carrying the word

pub carries_zero : (m : List ℕ) (w : ℕ) → Carries (number m) w → syndrome m w ≡ 0
unfolding syndrome
carries_zero m w e = ap (λ (r : ℕ). bit_xor r w) e ∙ xor_self w

pub zero_carries : (m : List ℕ) (w : ℕ) → syndrome m w ≡ 0 → Carries (number m) w
unfolding syndrome
zero_carries m w e = xor_move (remainder (number m)) w 0 e

carries→ : (m : List ℕ) (w d : ℕ) → Carries (bit_xor (number m) d) w → remainder d ≡ syndrome m w
unfolding syndrome
carries→ m w d e =
    sym (xor_cancel (remainder (number m)) (remainder d))
    ∙ ap (bit_xor (remainder (number m))) (sym (remainder-xor (number m) d) ∙ e)

carries← : (m : List ℕ) (w d : ℕ) → remainder d ≡ syndrome m w → Carries (bit_xor (number m) d) w
unfolding syndrome
carries← m w d e = remainder-xor (number m) d ∙ ap (bit_xor (remainder (number m))) e ∙ xor_cancel (remainder (number m)) w

-- ---- the only change of a window is the candidate's

module _ (m c : List ℕ) (w : ℕ) (hw : w < 2 ^ 24) where
  s : ℕ
  s = syndrome m w

  pub fit_is : (v d : ℕ) → Fit m c w v d → (d ≡ change_at (syndrome m w) (place m v)) × (fits_at (passes m c) (syndrome m w) (place m v) ≡ true)
  unfolding Fit change_at passes fits_at s
  fit_is v d f =
      let p : ℕ = f.0.1 in
      let e : ℕ = place m v in
      let same : p ≡ candidate s e =
      window_unique p (candidate s e) e f.0.3 (candidate-lt s e (syndrome-lt m w hw))
      (ap remainder (sym f.0.4) ∙ carries→ m w d f.2 ∙ sym (candidate_law s e (syndrome-lt m w hw))) in (
        f.0.4 ∙ ap (λ (n : ℕ). n * 2 ^ e) same,
        ap₂ (λ (t u : Bool). t && u)
            (eq-eqb (bit_and (candidate s e) (marks_at c e)) (candidate s e)
            (subst (λ (n : ℕ). bit_and n (marks_at c e) ≡ n) same (on-low→ c p e f.0.3 (subst (OnLow c) f.0.4 f.1))))
            (ap (λ (n : ℕ). first_bit_agrees (inverted m n)) (sym (f.0.4 ∙ ap (λ (n : ℕ). n * 2 ^ e) same)) ∙ f.3),
      )

  pub is-fit : (e : ℕ) → 0 < syndrome m w → e ≤ last_window m → fits_at (passes m c) (syndrome m w) e ≡ true → Fit m c w (last_window m - e) (change_at (syndrome m w) e)
  unfolding Fit change_at passes fits_at s
  is-fit e hs he t =
      let p : ℕ = candidate s e in
      let tests = both (eqb (bit_and p (marks_at c e)) p) (first_bit_agrees (inverted m (p * 2 ^ e))) t in
      let back : place m (last_window m - e) ≡ e = omega arith in (
        (
          omega arith,
          p,
          candidate_pos s e hs (syndrome-lt m w hw),
          candidate-lt s e (syndrome-lt m w hw),
          ap (λ (k : ℕ). p * 2 ^ k) (sym back),
        ),
        on-low← c p e (candidate-lt s e (syndrome-lt m w hw)) (eqb-true (bit_and p (marks_at c e)) p tests.0),
        carries← m w (p * 2 ^ e) (candidate_law s e (syndrome-lt m w hw)),
        tests.1,
      )

-- ---- density

pub dense_is : (c : List ℕ) (l v : ℕ) → dense_at c l (place c v) ≡ true → l < low_marks c v
unfolding dense_at low_marks
dense_is c l v e = ltb-true l (ones (marks_at c (place c v))) e

pub not_dense : (c : List ℕ) (l v : ℕ) → dense_at c l (place c v) ≡ false → low_marks c v ≤ l
unfolding dense_at low_marks
not_dense c l v e = ltb-false l (ones (marks_at c (place c v))) e

-- ---- what the highest place says

not_at : {e : ℕ} → nowhere ≡ at e → ⊥
not_at q = let z : ◌≡◌ {A = ℕ} 0 1 = cc in omega arith

pub highest-found : (t : ℕ → Bool) (k e : ℕ) → highest t k ≡ at e → (e < k) × (t e ≡ true) × ((i : ℕ) → e < i → i < k → t i ≡ false)
unfolding highest
highest-found t zero e h = absurd (not_at h)
highest-found t (suc k) e h = by (t k) refl (highest-found t k e)
  where
    by : (b : Bool) → t k ≡ b → (highest t k ≡ at e → (e < k) × (t e ≡ true) × ((i : ℕ) → e < i → i < k → t i ≡ false))
        → (e < suc k) × (t e ≡ true) × ((i : ℕ) → e < i → i < suc k → t i ≡ false)
    by true q lower =
        let here : at k ≡ at e = sym (ap (λ (b : Bool). first_of b k (highest t k)) q) ∙ h in
        let same : k ≡ e = cc in
        (omega arith, ap t (sym same) ∙ q, λ i a b. absurd (omega arith))
    by false q lower =
        let r = lower (sym (ap (λ (b : Bool). first_of b k (highest t k)) q) ∙ h) in
        (omega arith, r.1, λ i a b. above i a (eq-or-lt_of_le (le_of_suc-le-suc b)) r.2)
      where
        above : (i : ℕ) → e < i → (i ≡ k) ⊎ (i < k) → ((i : ℕ) → e < i → i < k → t i ≡ false) → t i ≡ false
        above i a (inl z) f = ap t z ∙ q
        above i a (inr z) f = f i a z

pub highest-empty : (t : ℕ → Bool) (k : ℕ) → highest t k ≡ nowhere → (i : ℕ) → i < k → t i ≡ false
unfolding highest
highest-empty t zero h i l = absurd (not-suc-le-zero l)
highest-empty t (suc k) h i l = by (t k) refl (highest-empty t k) (eq-or-lt_of_le (le_of_suc-le-suc l))
  where
    by : (b : Bool) → t k ≡ b → (highest t k ≡ nowhere → (i : ℕ) → i < k → t i ≡ false) → (i ≡ k) ⊎ (i < k) → t i ≡ false
    by true q lower z =
        absurd (not_at (sym h ∙ ap (λ (b : Bool). first_of b k (highest t k)) q))
    by false q lower (inl z) = ap t z ∙ q
    by false q lower (inr z) = lower (sym (ap (λ (b : Bool). first_of b k (highest t k)) q) ∙ h) i z

-- ---- fits that differ

pub differs_is : (φ : ℕ → ℕ → Bool) (s e i : ℕ) → differs_at φ s e i ≡ true → (fits_at φ s i ≡ true) × (change_at s i ≡ change_at s e → ⊥)
unfolding differs_at
differs_is φ s e i h = by (fits_at φ s i) refl
  where
    by : (b : Bool) → fits_at φ s i ≡ b → (fits_at φ s i ≡ true) × (change_at s i ≡ change_at s e → ⊥)
    by true q = (
      q,
      λ z. never h (ap₂ (λ (t u : Bool). t && u) q (ap not (eq-eqb (change_at s i) (change_at s e) z))),
    )
    by false q =
        absurd (never h (ap (λ (b : Bool). b && not (eqb (change_at s i) (change_at s e))) q))

pub same_is : (φ : ℕ → ℕ → Bool) (s e i : ℕ) → differs_at φ s e i ≡ false → fits_at φ s i ≡ true → change_at s i ≡ change_at s e
unfolding differs_at
same_is φ s e i h f = by (eqb (change_at s i) (change_at s e)) refl
  where
    by : (b : Bool) → eqb (change_at s i) (change_at s e) ≡ b → change_at s i ≡ change_at s e
    by true q = eqb-true (change_at s i) (change_at s e) q
    by false q =
        absurd (never (ap₂ (λ (t u : Bool). t && u) f (ap not q)) h)

-- ---- the ones of a change are the ones of its pattern

pub ones_change : (s e : ℕ) → ones (candidate s e) ≡ ones (change_at s e)
unfolding change_at
ones_change s e =
    sym
    (ap ones (sym (add-zero (candidate s e * 2 ^ e))) ∙ ones_cat e (candidate s e) 0 (pow_pos e)
    ∙ ap (λ (n : ℕ). ones (candidate s e) + n) (ones-ones 0) ∙ add-zero (ones (candidate s e)))
