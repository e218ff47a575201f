-- The search. In the window at place e the only pattern that can make the message carry the word is the candidate: its
-- remainder there is the syndrome (`candidate_law`). And the fit that the code keeps while it visits the places one
-- after the other says which of them fit, and whether they invert the same message bits (`search_seen`).
use mathlib.Core.Path.{◌≡◌, refl, sym, ap, ◌∙◌, subst}
use mathlib.Core.Logic.{◌⊎◌, inl, inr}
use mathlib.Core.Bool.{Bool, true, false, cond}
use Prim.Native.Nat.{ℕ, zero, suc, ◌+◌, ◌-◌, ◌*◌, ◌^◌, ◌<◌, ◌≤◌}
use native.Mathlib.Nat.{add-suc, add-zero, zero-add, mul-one, zero-mul, eq-or-lt_of_le, le_of_suc-le-suc, not-suc-le-zero, lt_trans, le_refl, lt_irrefl, lt_of_lt_of_le}
use native.Mathlib.Numerals.{add-one}
use native.Mathlib.Omega.{arith}
use lib.Dec.{eqb}
use borrow.Author.Tests.{eqb-true, eqb-false}
use Rattle.outcome.proofs.Laws.{never, positive}
use Rattle.division.specs.Division.{remainder, backward}
use Rattle.division.proofs.Laws.{remainder-zero, remainder_small, remainder-shl, backward_is, backward-lt, shl-suc, shl_comm}
use Rattle.sensor.specs.Verdicts.{Found, first_of, highest, candidate, change_at, fits_at}
use Rattle.sensor.specs.Verdicts.Found.{nowhere, at}
use Rattle.std.specs.Prelude.{Option, None, Some}
use Rattle.sensor.specs.declared.Mark.{Mark}
use Rattle.sensor.specs.declared.Mark.TheVariants.{Sole, Several}
use Rattle.sensor.specs.Searching.{noted, fit_to}
use Rattle.sensor.specs.declared.search.Fit.{Fit}

-- ---- the candidate

pub candidate-lt : (s e : ℕ) → s < 2 ^ 24 → candidate s e < 2 ^ 24
unfolding candidate
candidate-lt s zero h = h
candidate-lt s (suc e) h = backward-lt (candidate s e) (candidate-lt s e h)

pub candidate_law : (s e : ℕ) → s < 2 ^ 24 → remainder (candidate s e * 2 ^ e) ≡ s
unfolding candidate
candidate_law s zero h = ap remainder (mul-one s) ∙ remainder_small s h
candidate_law s (suc e) h =
    ap remainder (shl-suc (backward (candidate s e)) e ∙ shl_comm (backward (candidate s e)) e 1)
    ∙ remainder-shl (backward (candidate s e) * 2) e
    ∙ ap (λ (r : ℕ). remainder (r * 2 ^ e)) (backward_is (candidate s e) (candidate-lt s e h))
    ∙ candidate_law s e h

pub candidate_pos : (s e : ℕ) → 0 < s → s < 2 ^ 24 → 0 < candidate s e
candidate_pos s e p h = positive (candidate s e) (λ z. lt_irrefl 0 (subst (λ (n : ℕ). 0 < n) (none z) p))
  where
    none : candidate s e ≡ 0 → s ≡ 0
    none z = sym (candidate_law s e h) ∙ ap (λ (n : ℕ). remainder (n * 2 ^ e)) z ∙ ap remainder (zero-mul (2 ^ e)) ∙ remainder-zero

-- ---- the highest place that passes a test

below_suc : (e k : ℕ) → e < suc k → (e ≡ k) ⊎ (e < k)
below_suc e k h = eq-or-lt_of_le (le_of_suc-le-suc h)

pub highest-start : (t : ℕ → Bool) → nowhere ≡ highest t 0
unfolding highest
highest-start t = refl

pub highest-next : (t : ℕ → Bool) (k : ℕ) → highest t (k + 1) ≡ first_of (t k) k (highest t k)
unfolding highest
highest-next t k = ap (highest t) (add-one k)

-- by the place below
pub highest_hit : (t : ℕ → Bool) (k : ℕ) → 0 < k → t (k - 1) ≡ true → highest t k ≡ at (k - 1)
highest_hit t k h e =
    let there : k - 1 + 1 ≡ k = omega arith in
    ap (highest t) (sym there) ∙ highest-next t (k - 1) ∙ ap (λ (b : Bool). first_of b (k - 1) (highest t (k - 1))) e

pub highest_miss : (t : ℕ → Bool) (k : ℕ) → 0 < k → t (k - 1) ≡ false → highest t k ≡ highest t (k - 1)
highest_miss t k h e =
    let there : k - 1 + 1 ≡ k = omega arith in
    ap (highest t) (sym there) ∙ highest-next t (k - 1) ∙ ap (λ (b : Bool). first_of b (k - 1) (highest t (k - 1))) e

pub highest_past : (t : ℕ → Bool) (k n : ℕ) → ((e : ℕ) → k ≤ e → e < k + n → t e ≡ false) → highest t (k + n) ≡ highest t k
unfolding highest
highest_past t k zero h = ap (highest t) (add-zero k)
highest_past t k (suc n) h =
    ap (highest t) (add-suc k n)
    ∙ ap (λ (b : Bool). first_of b (k + n) (highest t (k + n))) (h (k + n) (omega arith) (omega arith))
    ∙ highest_past t k n (λ e l u. h e l (omega arith))

pub ruleset going_down = (highest_past, highest_hit, highest_miss)

pub ruleset highest_last = (highest-start, highest-next)

pub highest-none : (t : ℕ → Bool) (k : ℕ) → ((e : ℕ) → e < k → t e ≡ false) → highest t k ≡ nowhere
highest-none t k h =
    ap (highest t) (sym (zero-add k)) ∙ highest_past t 0 k (λ e l u. h e (omega arith)) ∙ sym (highest-start t)

pub highest-at : (t : ℕ → Bool) (k e : ℕ) → e < k → t e ≡ true → ((i : ℕ) → e < i → i < k → t i ≡ false) → highest t k ≡ at e
unfolding highest
highest-at t zero e l p h = absurd (not-suc-le-zero l)
highest-at t (suc k) e l p h = by (below_suc e k l) (λ q. highest-at t k e q p (λ i a b. h i a (lt_trans b (le_refl (suc k)))))
  where
    by : (e ≡ k) ⊎ (e < k) → (e < k → highest t k ≡ at e) → first_of (t k) k (highest t k) ≡ at e
    by (inl q) lower = ap (λ (b : Bool). first_of b k (highest t k)) (ap t (sym q) ∙ p) ∙ ap at (sym q)
    by (inr q) lower = ap (λ (b : Bool). first_of b k (highest t k)) (h k q (le_refl (suc k))) ∙ lower q

pub highest_below : (t : ℕ → Bool) (k e : ℕ) → at e ≡ highest t k → e < k
unfolding highest
highest_below t zero e h = let no : ◌≡◌ {A = Found} (at e) nowhere = h in cc
highest_below t (suc k) e h = by (t k) refl (highest_below t k e)
  where
    by : (b : Bool) → t k ≡ b → (at e ≡ highest t k → e < k) → e < suc k
    by true q lower =
        let same : ◌≡◌ {A = Found} (at e) (at k) = h ∙ ap (λ (b : Bool). first_of b k (highest t k)) q in
        let it : e ≡ k = cc in
        omega arith
    by false q lower = let there : e < k = lower (h ∙ ap (λ (b : Bool). first_of b k (highest t k)) q) in omega arith

-- some place passes, so one is highest
pub highest_some : (t : ℕ → Bool) (k e : ℕ) → e < k → t e ≡ true → (i : ℕ) × (highest t k ≡ at i)
unfolding highest
highest_some t zero e l p = absurd (not-suc-le-zero l)
highest_some t (suc k) e l p = by (t k) refl (below_suc e k l) (λ r. highest_some t k e r p)
  where
    by : (b : Bool) → t k ≡ b → (e ≡ k) ⊎ (e < k) → (e < k → (i : ℕ) × (highest t k ≡ at i)) → (i : ℕ) × (first_of (t k) k (highest t k) ≡ at i)
    by true q d lower = (k, ap (λ (b : Bool). first_of b k (highest t k)) q)
    by false q (inl r) lower = absurd (never (sym (ap t r) ∙ p) q)
    by false q (inr r) lower = ((lower r).0, ap (λ (b : Bool). first_of b k (highest t k)) q ∙ (lower r).1)

-- ---- what the fit says after the places below k

-- it is the one at the highest place that fits
pub record Top (φ : ℕ → ℕ → Bool) (s k : ℕ) (f : Fit) : Type 0 where
  pub below : f.place < k
  pub pattern : f.pattern ≡ candidate s f.place
  pub fits : fits_at φ s f.place ≡ true
  pub last : (e : ℕ) → f.place < e → e < k → fits_at φ s e ≡ false

pub data Seen (φ : ℕ → ℕ → Bool) (s k : ℕ) (r : Option Fit) : Type 0 where
  none : r ≡ None → ((e : ℕ) → e < k → fits_at φ s e ≡ false) → Seen φ s k r
  one : (f : Fit) → r ≡ Some f → f.mark ≡ Sole → Top φ s k f → ((e : ℕ) → e < k → fits_at φ s e ≡ true → change_at s e ≡ change_at s f.place) → Seen φ s k r
  many : (f : Fit) → r ≡ Some f → f.mark ≡ Several → Top φ s k f → (e : ℕ) → e < k → fits_at φ s e ≡ true → (change_at s e ≡ change_at s f.place → ⊥) → Seen φ s k r

higher : (φ : ℕ → ℕ → Bool) (s k : ℕ) (f : Fit) → fits_at φ s k ≡ false → Top φ s k f → Top φ s (suc k) f
higher φ s k f g t = record { below = lt_trans t.below (le_refl (suc k)); pattern = t.pattern; fits = t.fits; last = more }
  where
    more : (e : ℕ) → f.place < e → e < suc k → fits_at φ s e ≡ false
    more e a l = by (below_suc e k l)
      where
        by : (e ≡ k) ⊎ (e < k) → fits_at φ s e ≡ false
        by (inl q) = ap (fits_at φ s) q ∙ g
        by (inr q) = t.last e a q

-- a place that does not fit changes nothing
passed_by : (φ : ℕ → ℕ → Bool) (s k : ℕ) (r : Option Fit) → fits_at φ s k ≡ false → Seen φ s k r → Seen φ s (suc k) r
passed_by φ s k r g (none z h) = none z more
  where
    more : (e : ℕ) → e < suc k → fits_at φ s e ≡ false
    more e l = by (below_suc e k l)
      where
        by : (e ≡ k) ⊎ (e < k) → fits_at φ s e ≡ false
        by (inl q) = ap (fits_at φ s) q ∙ g
        by (inr q) = h e q
passed_by φ s k r g (one f z m t h) = one f z m (higher φ s k f g t) more
  where
    more : (e : ℕ) → e < suc k → fits_at φ s e ≡ true → change_at s e ≡ change_at s f.place
    more e l p = by (below_suc e k l)
      where
        by : (e ≡ k) ⊎ (e < k) → change_at s e ≡ change_at s f.place
        by (inl q) = absurd (never (sym (ap (fits_at φ s) q) ∙ p) g)
        by (inr q) = h e q p
passed_by φ s k r g (many f z m t e l p d) = many f z m (higher φ s k f g t) e (lt_trans l (le_refl (suc k))) p d

-- a fit at place k, with a mark
abbrev here : ℕ → ℕ → Mark → Fit
here s k m = record { mark = m; place = k; pattern = candidate s k }

top : (φ : ℕ → ℕ → Bool) (s k : ℕ) (m : Mark) → fits_at φ s k ≡ true → Top φ s (suc k) (here s k m)
top φ s k m g =
    record { below = le_refl (suc k); pattern = refl; fits = g; last = λ e a l. absurd (lt_irrefl k (lt_of_lt_of_le a (le_of_suc-le-suc l))) }

first_fit : (φ : ℕ → ℕ → Bool) (s k : ℕ) → fits_at φ s k ≡ true → ((e : ℕ) → e < k → fits_at φ s e ≡ false) → Seen φ s (suc k) (Some (here s k Sole))
first_fit φ s k g h = one (here s k Sole) refl refl (top φ s k Sole g) more
  where
    more : (e : ℕ) → e < suc k → fits_at φ s e ≡ true → change_at s e ≡ change_at s k
    more e l p = by (below_suc e k l)
      where
        by : (e ≡ k) ⊎ (e < k) → change_at s e ≡ change_at s k
        by (inl q) = ap (change_at s) q
        by (inr q) = absurd (never p (h e q))

same_fit : (φ : ℕ → ℕ → Bool) (s k q : ℕ) → fits_at φ s k ≡ true → change_at s q ≡ change_at s k
    → ((e : ℕ) → e < k → fits_at φ s e ≡ true → change_at s e ≡ change_at s q) → Seen φ s (suc k) (Some (here s k Sole))
same_fit φ s k q g same h = one (here s k Sole) refl refl (top φ s k Sole g) more
  where
    more : (e : ℕ) → e < suc k → fits_at φ s e ≡ true → change_at s e ≡ change_at s k
    more e l p = by (below_suc e k l)
      where
        by : (e ≡ k) ⊎ (e < k) → change_at s e ≡ change_at s k
        by (inl r) = ap (change_at s) r
        by (inr r) = h e r p ∙ same

other_fit : (φ : ℕ → ℕ → Bool) (s k q : ℕ) → fits_at φ s k ≡ true → q < k → fits_at φ s q ≡ true → (change_at s q ≡ change_at s k → ⊥)
    → Seen φ s (suc k) (Some (here s k Several))
other_fit φ s k q g l p d = many (here s k Several) refl refl (top φ s k Several g) q (lt_trans l (le_refl (suc k))) p d

-- a fit at place k, by what was seen before
fit_more : (φ : ℕ → ℕ → Bool) (s k : ℕ) (r : Option Fit) → fits_at φ s k ≡ true → Seen φ s k r → Seen φ s (suc k) (Some (noted r (candidate s k) k))
unfolding change_at
fit_more φ s k r g (none z h) =
    subst (λ (x : Option Fit). Seen φ s (suc k) (Some (noted x (candidate s k) k))) (sym z) (first_fit φ s k g h)
fit_more φ s k r g (one f z m t h) =
    subst (λ (x : Option Fit). Seen φ s (suc k) (Some (noted x (candidate s k) k))) (sym z) (by (eqb (f.pattern * 2 ^ f.place) (candidate s k * 2 ^ k)) refl)
  where
    same : f.pattern * 2 ^ f.place ≡ change_at s f.place
    same = ap (λ (p : ℕ). p * 2 ^ f.place) t.pattern

    by : (b : Bool) → eqb (f.pattern * 2 ^ f.place) (candidate s k * 2 ^ k) ≡ b → Seen φ s (suc k) (Some (noted (Some f) (candidate s k) k))
    by true q =
        subst (λ (n : Mark). Seen φ s (suc k) (Some (here s k n))) (sym (ap (λ (b : Bool). cond b f.mark Several) q ∙ m))
        (same_fit φ s k f.place g (sym same ∙ eqb-true (f.pattern * 2 ^ f.place) (candidate s k * 2 ^ k) q) h)
    by false q =
        subst (λ (n : Mark). Seen φ s (suc k) (Some (here s k n))) (sym (ap (λ (b : Bool). cond b f.mark Several) q))
        (other_fit φ s k f.place g t.below t.fits (λ p. eqb-false (f.pattern * 2 ^ f.place) (candidate s k * 2 ^ k) q (same ∙ p)))
fit_more φ s k r g (many f z m t i l p d) =
    subst (λ (x : Option Fit). Seen φ s (suc k) (Some (noted x (candidate s k) k))) (sym z)
    (subst (λ (n : Mark). Seen φ s (suc k) (Some (here s k n))) (sym (several (eqb (f.pattern * 2 ^ f.place) (candidate s k * 2 ^ k)))) (by (eqb (change_at s i) (change_at s k)) refl))
  where
    several : (b : Bool) → cond b f.mark Several ≡ Several
    several true = m
    several false = refl

    by : (b : Bool) → eqb (change_at s i) (change_at s k) ≡ b → Seen φ s (suc k) (Some (here s k Several))
    by true q = other_fit φ s k f.place g t.below t.fits (λ r. d (eqb-true (change_at s i) (change_at s k) q ∙ sym r))
    by false q = other_fit φ s k i g l p (eqb-false (change_at s i) (change_at s k) q)

pub search_seen : (φ : ℕ → ℕ → Bool) (s k : ℕ) → Seen φ s k (fit_to φ s k)
unfolding fit_to
search_seen φ s zero = none refl (λ e l. absurd (not-suc-le-zero l))
search_seen φ s (suc k) = by (fits_at φ s k) refl (search_seen φ s k)
  where
    by : (b : Bool) → fits_at φ s k ≡ b → Seen φ s k (fit_to φ s k) → Seen φ s (suc k) (cond (fits_at φ s k) (Some (noted (fit_to φ s k) (candidate s k) k)) (fit_to φ s k))
    by true q seen =
        subst (λ (b : Bool). Seen φ s (suc k) (cond b (Some (noted (fit_to φ s k) (candidate s k) k)) (fit_to φ s k))) (sym q)
        (fit_more φ s k (fit_to φ s k) q seen)
    by false q seen =
        subst (λ (b : Bool). Seen φ s (suc k) (cond b (Some (noted (fit_to φ s k) (candidate s k) k)) (fit_to φ s k))) (sym q)
        (passed_by φ s k (fit_to φ s k) q seen)

pub fit-start : (φ : ℕ → ℕ → Bool) (s : ℕ) → fit_to φ s 0 ≡ None
unfolding fit_to
fit-start φ s = refl

pub fit-next : (φ : ℕ → ℕ → Bool) (s k : ℕ) → fit_to φ s (k + 1) ≡ cond (φ k (candidate s k)) (Some (noted (fit_to φ s k) (candidate s k) k)) (fit_to φ s k)
unfolding fit_to fits_at
fit-next φ s k = ap (fit_to φ s) (add-one k)

-- the fit so far is at a place that was passed
pub fit_below : (φ : ℕ → ℕ → Bool) (s k : ℕ) (f : Fit) → fit_to φ s k ≡ Some f → f.place < k
fit_below φ s k f e = by (search_seen φ s k)
  where
    by : Seen φ s k (fit_to φ s k) → f.place < k
    by (none z h) = let no : ◌≡◌ {A = Option Fit} None (Some f) = sym z ∙ e in cc
    by (one g z m t h) = let same : ◌≡◌ {A = Option Fit} (Some g) (Some f) = sym z ∙ e in let it : g ≡ f = cc in subst (λ (x : Fit). x.place < k) it t.below
    by (many g z m t i l p d) = let same : ◌≡◌ {A = Option Fit} (Some g) (Some f) = sym z ∙ e in let it : g ≡ f = cc in subst (λ (x : Fit). x.place < k) it t.below

pub candidate-start : (s : ℕ) → s ≡ candidate s 0
unfolding candidate
candidate-start s = refl

pub candidate-next : (s k : ℕ) → candidate s (k + 1) ≡ backward (candidate s k)
unfolding candidate
candidate-next s k = ap (candidate s) (add-one k)

-- what the loop of the search needs
pub ruleset searching = (fit-start, fit-next, fit_below, candidate-start, candidate-next, candidate-lt)
