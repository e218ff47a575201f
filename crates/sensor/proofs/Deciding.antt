-- The decision: what the state of the search, the highest dense place and the syndrome make of it, and what it makes of the
-- outcome of a call that no row refuses.
use mathlib.Core.Path.{◌≡◌, refl, sym, ap, ap₂, ◌∙◌, subst}
use mathlib.Core.Bool.{Bool, true, false, not, ◌&&◌}
use mathlib.Core.List.{List}
use Prim.Native.Nat.{ℕ, suc, ◌-◌, ◌*◌, ◌^◌, ◌<◌, ◌≤◌}
use native.Mathlib.Nat.{le_of_suc-le-suc}
use lib.Bits.{xor_lt}
use lib.Count.{ones}
use lib.Dec.{eqb}
use lib.ListN.{length}
use borrow.Author.Tests.{eq-eqb, ne_eqb}
use Rattle.division.specs.Division.{remainder}
use Rattle.message.specs.Message.{number}
use Rattle.outcome.specs.Outcomes.{left, Unrefused}
use Rattle.outcome.specs.Outcomes.Outcome.{refusal}
use Rattle.outcome.proofs.Laws.{left_of}
use Rattle.division.proofs.Laws.{remainder-lt}
use Rattle.message.specs.Bits.{last_window, inverted}
use Rattle.sensor.specs.Verdicts.{Found, highest, candidate, change_at, passes, fits_at, differs_at, Decision, fit_decision, dense_decision, clean_decision, fits_decision, hit_decision, decision_of, mark_of, mark_number, decision_answer, decision_message, syndrome, sensor_outcome, sensor_after, dense_at, corrected_answer}
use Rattle.sensor.specs.Verdicts.Found.{nowhere, at}
use Rattle.sensor.specs.Verdicts.Decision.{clean, dense, no_fit, corrected}
use Rattle.std.specs.Prelude.{Option, None, Some}
use Rattle.sensor.specs.Searching.{fit_to}
use Rattle.sensor.specs.declared.search.Fit.{Fit}
use Rattle.sensor.proofs.Fits.{Top, Seen, highest-none, highest-at, highest_some, search_seen, highest_below, fit_below, candidate-lt}
use Rattle.sensor.proofs.Fits.Seen.{none, one, many}
use Rattle.sensor.proofs.Checking.{Admitted, admitted, sizes, sizes_of}

-- ---- the fits

not_different : (φ : ℕ → ℕ → Bool) (s e i : ℕ) → (fits_at φ s i ≡ true → change_at s i ≡ change_at s e) → differs_at φ s e i ≡ false
unfolding differs_at
not_different φ s e i h = by (fits_at φ s i) refl
  where
    by : (b : Bool) → fits_at φ s i ≡ b → (fits_at φ s i && not (eqb (change_at s i) (change_at s e))) ≡ false
    by true q = ap₂ (λ (t u : Bool). t && u) q (ap not (eq-eqb (change_at s i) (change_at s e) (h q)))
    by false q = ap (λ (b : Bool). b && not (eqb (change_at s i) (change_at s e))) q

different : (φ : ℕ → ℕ → Bool) (s e i : ℕ) → fits_at φ s i ≡ true → (change_at s i ≡ change_at s e → ⊥) → differs_at φ s e i ≡ true
unfolding differs_at
different φ s e i f d = ap₂ (λ (t u : Bool). t && u) f (ap not (ne_eqb (change_at s i) (change_at s e) d))

-- what a correction is made of, from the fit at the end of the search
pub record Mended (φ : ℕ → ℕ → Bool) (c : List ℕ) (s : ℕ) (f : Fit) : Type 0 where
  pub other : Found
  pub decision : fits_decision φ c s ≡ corrected f.place other
  pub mark : mark_of f.mark ≡ mark_number other
  pub pattern : f.pattern ≡ candidate s f.place
  pub place : f.place ≤ last_window c

mended : (φ : ℕ → ℕ → Bool) (c : List ℕ) (s : ℕ) (f : Fit) (o : Found) → Top φ s (suc (last_window c)) f → highest (differs_at φ s f.place) (suc (last_window c)) ≡ o
    → mark_of f.mark ≡ mark_number o → Mended φ c s f
unfolding fits_decision
mended φ c s f o t d m =
    record {
      other = o;
      decision =
          ap (fit_decision (λ (e : ℕ). highest (differs_at φ s e) (suc (last_window c)))) (highest-at (fits_at φ s) (suc (last_window c)) f.place t.below t.fits t.last)
          ∙ ap (corrected f.place) d;
      mark = m;
      pattern = t.pattern;
      place = le_of_suc-le-suc t.below;
    }

pub no_fit_lem : (φ : ℕ → ℕ → Bool) (c : List ℕ) (s : ℕ) → fit_to φ s (suc (last_window c)) ≡ None → no_fit ≡ fits_decision φ c s
unfolding fits_decision
no_fit_lem φ c s e = by (search_seen φ s (suc (last_window c)))
  where
    by : Seen φ s (suc (last_window c)) (fit_to φ s (suc (last_window c))) → no_fit ≡ fits_decision φ c s
    by (none z h) =
        sym (ap (fit_decision (λ (e : ℕ). highest (differs_at φ s e) (suc (last_window c)))) (highest-none (fits_at φ s) (suc (last_window c)) h))
    by (one f z m t h) = let no : ◌≡◌ {A = Option Fit} (Some f) None = sym z ∙ e in cc
    by (many f z m t i l p d) = let no : ◌≡◌ {A = Option Fit} (Some f) None = sym z ∙ e in cc

pub some_fit : (φ : ℕ → ℕ → Bool) (c : List ℕ) (s : ℕ) (f : Fit) → fit_to φ s (suc (last_window c)) ≡ Some f → Mended φ c s f
some_fit φ c s f e = by (search_seen φ s (suc (last_window c)))
  where
    by : Seen φ s (suc (last_window c)) (fit_to φ s (suc (last_window c))) → Mended φ c s f
    by (none z h) = let no : ◌≡◌ {A = Option Fit} None (Some f) = sym z ∙ e in cc
    by (one g z m t h) =
        let same : ◌≡◌ {A = Option Fit} (Some g) (Some f) = sym z ∙ e in
        let it : g ≡ f = cc in
        subst (Mended φ c s) it
        (mended φ c s g nowhere t (highest-none (differs_at φ s g.place) (suc (last_window c)) (λ i l. not_different φ s g.place i (h i l))) (ap mark_of m))
    by (many g z m t i l p d) =
        let same : ◌≡◌ {A = Option Fit} (Some g) (Some f) = sym z ∙ e in
        let it : g ≡ f = cc in
        let found = highest_some (differs_at φ s g.place) (suc (last_window c)) i l (different φ s g.place i p d) in
        subst (Mended φ c s) it (mended φ c s g (at found.0) t found.1 (ap mark_of m))

-- ---- the dense windows, and the clean message

pub decides_dense : (φ : ℕ → ℕ → Bool) (c : List ℕ) (s l e : ℕ) → at e ≡ highest (dense_at c l) (suc (last_window c)) → dense e ≡ hit_decision φ c s l
unfolding hit_decision
decides_dense φ c s l e h = ap (λ (f : Found). dense_decision f (fits_decision φ c s)) h

pub decides_sparse : (φ : ℕ → ℕ → Bool) (c : List ℕ) (s l : ℕ) → nowhere ≡ highest (dense_at c l) (suc (last_window c)) → fits_decision φ c s ≡ hit_decision φ c s l
unfolding hit_decision
decides_sparse φ c s l h = ap (λ (f : Found). dense_decision f (fits_decision φ c s)) h

pub decides_clean : (m c : List ℕ) (w l : ℕ) → syndrome m w ≡ 0 → clean ≡ decision_of m c w l
unfolding decision_of
decides_clean m c w l e = sym (ap (λ (b : Bool). clean_decision b (hit_decision (passes m c) c (syndrome m w) l)) (eq-eqb (syndrome m w) 0 e))

pub decides_hit : (m c : List ℕ) (w l : ℕ) → (syndrome m w ≡ 0 → ⊥) → hit_decision (passes m c) c (syndrome m w) l ≡ decision_of m c w l
unfolding decision_of
decides_hit m c w l e = sym (ap (λ (b : Bool). clean_decision b (hit_decision (passes m c) c (syndrome m w) l)) (ne_eqb (syndrome m w) 0 e))

-- ---- the answer and the message of a correction

module _ (φ : ℕ → ℕ → Bool) (m c : List ℕ) (s : ℕ) (f : Fit) (t : Mended φ c s f) where
  pub mended-answer : corrected_answer (last_window m - f.place) (ones f.pattern) (mark_of f.mark) ≡ decision_answer m s (fits_decision φ c s)
  mended-answer =
      ap₂ (λ (p k : ℕ). corrected_answer (last_window m - f.place) (ones p) k) t.pattern t.mark
      ∙ sym (ap (decision_answer m s) t.decision)

  pub mended-message : inverted m (f.pattern * 2 ^ f.place) ≡ decision_message m s (fits_decision φ c s)
  unfolding change_at
  mended-message = ap (λ (p : ℕ). inverted m (p * 2 ^ f.place)) t.pattern ∙ sym (ap (decision_message m s) t.decision)

-- ---- the message after the call

pub decision_left : (m after : List ℕ) (s : ℕ) (r : Decision) → after ≡ left (decision_answer m s r) m after
decision_left m after s clean = refl
decision_left m after s (dense e) = refl
decision_left m after s no_fit = refl
decision_left m after s (corrected e o) = refl

-- ---- the syndrome

pub syndrome-lt : (m : List ℕ) (w : ℕ) → w < 2 ^ 24 → syndrome m w < 2 ^ 24
unfolding syndrome
syndrome-lt m w h = xor_lt 24 (remainder (number m)) w (remainder-lt (number m)) h

-- ---- the decision on a hit, by what the code found

module _ (m c : List ℕ) (w l s : ℕ) (q : s ≡ syndrome m w) (n : s ≡ 0 → ⊥) where
  hit : hit_decision (passes m c) c (syndrome m w) l ≡ decision_of m c w l
  hit = decides_hit m c w l (λ z. n (q ∙ z))

  fit_there : (r : Option Fit) → r ≡ fit_to (passes m c) s (suc (last_window c)) → fit_to (passes m c) (syndrome m w) (suc (last_window c)) ≡ r
  fit_there r e = sym (e ∙ ap (λ (x : ℕ). fit_to (passes m c) x (suc (last_window c))) q)

  pub found_dense : (e : ℕ) → at e ≡ highest (dense_at c l) (suc (last_window c)) → dense e ≡ decision_of m c w l
  found_dense e h = decides_dense (passes m c) c (syndrome m w) l e h ∙ hit

  pub found_none : nowhere ≡ highest (dense_at c l) (suc (last_window c)) → None ≡ fit_to (passes m c) s (suc (last_window c)) → no_fit ≡ decision_of m c w l
  found_none h e = no_fit_lem (passes m c) c (syndrome m w) (fit_there None e) ∙ decides_sparse (passes m c) c (syndrome m w) l h ∙ hit

  pub found_fit : (f : Fit) → Some f ≡ fit_to (passes m c) s (suc (last_window c)) → Mended (passes m c) c (syndrome m w) f
  found_fit f e = some_fit (passes m c) c (syndrome m w) f (fit_there (Some f) e)

  pub found_fits : nowhere ≡ highest (dense_at c l) (suc (last_window c)) → fits_decision (passes m c) c (syndrome m w) ≡ decision_of m c w l
  found_fits h = decides_sparse (passes m c) c (syndrome m w) l h ∙ hit

-- the places that the code found are places of the message, and the pattern has 24 bits
pub found_place : (c : List ℕ) (l e : ℕ) → at e ≡ highest (dense_at c l) (suc (last_window c)) → e ≤ last_window c
found_place c l e h = le_of_suc-le-suc (highest_below (dense_at c l) (suc (last_window c)) e h)

pub fit_place : (φ : ℕ → ℕ → Bool) (c : List ℕ) (s : ℕ) (f : Fit) → Some f ≡ fit_to φ s (suc (last_window c)) → f.place ≤ last_window c
fit_place φ c s f e = le_of_suc-le-suc (fit_below φ s (suc (last_window c)) f (sym e))

pub fit_pattern : (φ : ℕ → ℕ → Bool) (c : List ℕ) (s : ℕ) (f : Fit) → s < 2 ^ 24 → Some f ≡ fit_to φ s (suc (last_window c)) → f.pattern < 2 ^ 24
fit_pattern φ c s f h e = subst (λ (n : ℕ). n < 2 ^ 24) (sym (some_fit φ c s f (sym e)).pattern) (candidate-lt s f.place h)

pub ruleset deciding = (found_dense, found_none, found_fit, found_fits, mended-answer, mended-message, syndrome-lt, sizes_of, sizes, found_place, fit_place, fit_pattern)

-- ---- a call that no row refuses

pub unrefused : (m c : List ℕ) (w l : ℕ) → Unrefused (sensor_outcome m c w l) → Admitted (length m) (length c) w l
unfolding sensor_outcome
unrefused m c w l h = admitted (length m) (length c) w l (decision_answer m (syndrome m w) (decision_of m c w l)) h

pub outcome_decided : (m c : List ℕ) (w l : ℕ) → Admitted (length m) (length c) w l → sensor_outcome m c w l ≡ decision_answer m (syndrome m w) (decision_of m c w l)
unfolding sensor_outcome
outcome_decided m c w l ok = ok.outcome (decision_answer m (syndrome m w) (decision_of m c w l))

pub after_decided : (m c : List ℕ) (w l : ℕ) → Admitted (length m) (length c) w l → sensor_after m c w l ≡ decision_message m (syndrome m w) (decision_of m c w l)
unfolding sensor_after
after_decided m c w l ok =
    left_of _ _ m (decision_message m (syndrome m w) (decision_of m c w l)) (outcome_decided m c w l ok)
    ∙ sym (decision_left m (decision_message m (syndrome m w) (decision_of m c w l)) (syndrome m w) (decision_of m c w l))

-- a call that was refused leaves the message
pub after-refused : (m c : List ℕ) (w l n : ℕ) → sensor_outcome m c w l ≡ refusal n → sensor_after m c w l ≡ m
unfolding sensor_after
after-refused m c w l n e = left_of _ _ m (decision_message m (syndrome m w) (decision_of m c w l)) e

-- ---- the decision on the fits

pub fits-none : (φ : ℕ → ℕ → Bool) (c : List ℕ) (s : ℕ) → highest (fits_at φ s) (suc (last_window c)) ≡ nowhere → no_fit ≡ fits_decision φ c s
unfolding fits_decision
fits-none φ c s e = sym (ap (fit_decision (λ (i : ℕ). highest (differs_at φ s i) (suc (last_window c)))) e)

pub fits-at : (φ : ℕ → ℕ → Bool) (c : List ℕ) (s e : ℕ) (o : Found) → highest (fits_at φ s) (suc (last_window c)) ≡ at e → highest (differs_at φ s e) (suc (last_window c)) ≡ o
    → corrected e o ≡ fits_decision φ c s
unfolding fits_decision
fits-at φ c s e o h d =
    ap (corrected e) (sym d) ∙ sym (ap (fit_decision (λ (i : ℕ). highest (differs_at φ s i) (suc (last_window c)))) h)
