-- The sensor is right, and only one answer is: the search of the definition against the rows of document 01. The idea: the
-- highest place is the lowest window, and in each window the only possible change is the candidate's.
use mathlib.Core.Path.{◌≡◌, refl, sym, ap, ap₂, ◌∙◌, subst}
use mathlib.Core.Bool.{true, false}
use mathlib.Core.List.{List}
use Prim.Native.Nat.{ℕ, zero, suc, ◌-◌, ◌*◌, ◌^◌, ◌<◌, ◌≤◌}
use native.Mathlib.Omega.{arith}
use lib.Count.{ones}
use lib.ListN.{length}
use Rattle.message.specs.Message.{number}
use Rattle.outcome.specs.Outcomes.{Outcome}
use Rattle.message.specs.Bits.{last_window, place, inverted}
use Rattle.division.specs.Division.{Carries}
use Rattle.sensor.specs.Changes.{Fit}
use Rattle.sensor.specs.Verdicts.{sole_mark, several_mark, dense_answer, corrected_answer, Found, highest, syndrome, candidate, change_at, dense_at, passes, fits_at, differs_at, Decision, hit_decision, decision_of, decision_answer, decision_message, sensor_outcome, sensor_after}
use Rattle.sensor.specs.Verdicts.Found.{nowhere, at}
use Rattle.sensor.specs.Verdicts.Decision.{corrected}
use Rattle.outcome.proofs.Laws.{never, positive}
use Rattle.sensor.proofs.Laws.{Admitted, unrefused, outcome_decided, after_decided, fits-none, fits-at, decides_dense, decides_sparse, decides_clean, decides_hit, carries_zero, zero_carries, fit_is, is-fit, dense_is, not_dense, highest-found, highest-empty, differs_is, same_is, ones_change}
use Rattle.conformance.specs.Correcting.{Judged, IsDense, LowestDense, NoneDense, LowestFit, OnlyChange, AnotherChange, Right, OursIsRight, OnlyOneIsRight}
use Rattle.conformance.specs.Correcting.Right.{clean, dense, no_fit, sole, several}

module _ (m c : List ℕ) (w l : ℕ) (ok : Admitted (length m) (length c) w l) where
  s : ℕ
  s = syndrome m w

  lasts : last_window c ≡ last_window m
  lasts = ap (λ (n : ℕ). 8 * n - 24) ok.same_length

  Ours : Type 0
  Ours = Right m c w l (sensor_outcome m c w l) (sensor_after m c w l)

  -- ---- the windows of the places

  lowest-dense : (e : ℕ) → highest (dense_at c l) (suc (last_window c)) ≡ at e → LowestDense c l (last_window m - e)
  unfolding LowestDense IsDense
  lowest-dense e h =
      let f = highest-found (dense_at c l) (suc (last_window c)) e h in
      let back : place c (last_window m - e) ≡ e = omega (arith, lasts, f.0) in (
        (omega (arith, lasts), dense_is c l (last_window m - e) (ap (dense_at c l) back ∙ f.1)),
        λ u lt d.
            let high : dense_at c l (place c u) ≡ false = f.2 (place c u) (omega (arith, lasts, f.0)) (omega arith) in
            omega (arith, not_dense c l u high, d.1),
      )

  none_dense : highest (dense_at c l) (suc (last_window c)) ≡ nowhere → NoneDense c l
  unfolding NoneDense IsDense
  none_dense h v d =
      omega (arith, not_dense c l v (highest-empty (dense_at c l) (suc (last_window c)) h (place c v) (omega arith)), d.1)

  -- a fit passes the test of its place
  fit-place : (v d : ℕ) → Fit m c w v d → (d ≡ change_at s (place m v)) × (fits_at (passes m c) s (place m v) ≡ true)
  unfolding s
  fit-place v d f = fit_is m c w ok.word_ok v d f

  fit-within : (v d : ℕ) → Fit m c w v d → v ≤ last_window m
  unfolding Fit
  fit-within v d f = f.0.0

  no_fit_lem : highest (fits_at (passes m c) s) (suc (last_window c)) ≡ nowhere → (v d : ℕ) → Fit m c w v d → ⊥
  no_fit_lem h v d f =
      never (fit-place v d f).1 (highest-empty (fits_at (passes m c) s) (suc (last_window c)) h (place m v) (omega (arith, lasts)))

  module _ (e : ℕ) (pos : 0 < s) (h : highest (fits_at (passes m c) s) (suc (last_window c)) ≡ at e) where
    found : (e < suc (last_window c)) × (fits_at (passes m c) s e ≡ true) × ((i : ℕ) → e < i → i < suc (last_window c) → fits_at (passes m c) s i ≡ false)
    found = highest-found (fits_at (passes m c) s) (suc (last_window c)) e h

    lowest-fit : LowestFit m c w (last_window m - e) (change_at s e)
    unfolding LowestFit s
    lowest-fit = (
      is-fit m c w ok.word_ok e pos (omega (arith, lasts, found.0)) found.1,
      λ u d lt f.
          never (fit-place u d f).1 (found.2 (place m u) (omega (arith, lasts, found.0)) (omega (arith, lasts))),
    )

    only_change : highest (differs_at (passes m c) s e) (suc (last_window c)) ≡ nowhere → OnlyChange m c w (change_at s e)
    unfolding OnlyChange
    only_change o u d f =
        let p = fit-place u d f in
        p.0 ∙ same_is (passes m c) s e (place m u) (highest-empty (differs_at (passes m c) s e) (suc (last_window c)) o (place m u) (omega (arith, lasts))) p.1

    another_change : (i : ℕ) → highest (differs_at (passes m c) s e) (suc (last_window c)) ≡ at i → AnotherChange m c w (change_at s e)
    unfolding AnotherChange s
    another_change i o =
        let f = highest-found (differs_at (passes m c) s e) (suc (last_window c)) i o in
        let d = differs_is (passes m c) s e i f.1 in (
          last_window m - i,
          change_at s i,
          is-fit m c w ok.word_ok i pos (omega (arith, lasts, f.0)) d.0,
          d.1,
        )

  -- ---- the rows

  answered : (r : Decision) → r ≡ decision_of m c w l → sensor_outcome m c w l ≡ decision_answer m s r
  unfolding s
  answered r e = outcome_decided m c w l ok ∙ ap (decision_answer m (syndrome m w)) (sym e)

  leaves : (r : Decision) → r ≡ decision_of m c w l → sensor_after m c w l ≡ decision_message m s r
  unfolding s
  leaves r e = after_decided m c w l ok ∙ ap (decision_message m (syndrome m w)) (sym e)

  count : (e k : ℕ) → corrected_answer (last_window m - e) (ones (candidate s e)) k ≡ corrected_answer (last_window m - e) (ones (change_at s e)) k
  count e k = ap (λ (n : ℕ). corrected_answer (last_window m - e) n k) (ones_change s e)

  module _ (hit : Carries (number m) w → ⊥) (pos : 0 < s) (row : hit_decision (passes m c) c s l ≡ decision_of m c w l) where
    by-other : (e : ℕ) → highest (dense_at c l) (suc (last_window c)) ≡ nowhere → highest (fits_at (passes m c) s) (suc (last_window c)) ≡ at e
        → (o : Found) → highest (differs_at (passes m c) s e) (suc (last_window c)) ≡ o → Ours
    unfolding Ours
    by-other e n h nowhere d =
        let r = fits-at (passes m c) c s e nowhere h d ∙ decides_sparse (passes m c) c s l (sym n) ∙ row in
        sole hit (none_dense n) (last_window m - e) (change_at s e) (lowest-fit e pos h) (only_change e pos h d)
        (answered (corrected e nowhere) r ∙ count e sole_mark) (leaves (corrected e nowhere) r)
    by-other e n h (at i) d =
        let r = fits-at (passes m c) c s e (at i) h d ∙ decides_sparse (passes m c) c s l (sym n) ∙ row in
        several hit (none_dense n) (last_window m - e) (change_at s e) (lowest-fit e pos h) (another_change e pos h i d)
        (answered (corrected e (at i)) r ∙ count e several_mark) (leaves (corrected e (at i)) r)

    by-fit : highest (dense_at c l) (suc (last_window c)) ≡ nowhere → (f : Found) → highest (fits_at (passes m c) s) (suc (last_window c)) ≡ f → Ours
    unfolding Ours
    by-fit n nowhere h =
        let r = fits-none (passes m c) c s h ∙ decides_sparse (passes m c) c s l (sym n) ∙ row in
        no_fit hit (none_dense n) (no_fit_lem h) (answered _ r) (leaves _ r)
    by-fit n (at e) h = by-other e n h (highest (differs_at (passes m c) s e) (suc (last_window c))) refl

    by-dense : (f : Found) → highest (dense_at c l) (suc (last_window c)) ≡ f → Ours
    unfolding Ours
    by-dense (at e) h =
        let r = decides_dense (passes m c) c s l e (sym h) ∙ row in
        dense hit (last_window m - e) (lowest-dense e h) (answered _ r) (leaves _ r)
    by-dense nowhere h = by-fit h (highest (fits_at (passes m c) s) (suc (last_window c))) refl

  by-syndrome : (n : ℕ) → s ≡ n → Ours
  unfolding Ours s
  by-syndrome zero e =
      let r = decides_clean m c w l e in
      clean (zero_carries m w e) (answered _ r) (leaves _ r)
  by-syndrome (suc n) e =
      let other : syndrome m w ≡ 0 → ⊥ = λ z. omega arith in
      by-dense (λ q. other (carries_zero m w q)) (positive (syndrome m w) other) (decides_hit m c w l other)
      (highest (dense_at c l) (suc (last_window c))) refl

pub ours_is_right : OursIsRight
unfolding OursIsRight Judged Ours
ours_is_right m c w l call =
    let ok = unrefused m c w l call.2 in
    by-syndrome m c w l ok (s m c w l ok) refl

-- ---- only one answer is right

-- a window has at most one fit
fit_unique : (m c : List ℕ) (w : ℕ) → w < 2 ^ 24 → (v d e : ℕ) → Fit m c w v d → Fit m c w v e → d ≡ e
fit_unique m c w hw v d e f g = (fit_is m c w hw v d f).0 ∙ sym (fit_is m c w hw v e g).0

equal : (u v : ℕ) → ¬ (u < v) → ¬ (v < u) → u ≡ v
equal u v a b = omega arith

-- two lowest windows are one
lowest_dense_unique : (c : List ℕ) (l u v : ℕ) → LowestDense c l u → LowestDense c l v → u ≡ v
unfolding LowestDense
lowest_dense_unique c l u v a b = equal u v (λ h. b.1 u h a.0) (λ h. a.1 v h b.0)

lowest_fit_unique : (m c : List ℕ) (w : ℕ) → w < 2 ^ 24 → (u d v e : ℕ) → LowestFit m c w u d → LowestFit m c w v e → (u ≡ v) × (d ≡ e)
unfolding LowestFit
lowest_fit_unique m c w hw u d v e a b =
    let same = equal u v (λ h. b.1 u d h a.0) (λ h. a.1 v e h b.0) in
    (same, fit_unique m c w hw u d e a.0 (subst (λ (x : ℕ). Fit m c w x e) (sym same) b.0))

-- a fit where there is none, and two changes where there is one
not_only : (m c : List ℕ) (w u d v e : ℕ) → LowestFit m c w u d → OnlyChange m c w d → LowestFit m c w v e → AnotherChange m c w e → ⊥
unfolding LowestFit OnlyChange AnotherChange
not_only m c w u d v e a f b g = g.3 (f g.0 g.1 g.2 ∙ sym (f v e b.0))

Same : Outcome → List ℕ → Outcome → List ℕ → Type 0
Same o a p b = (o ≡ p) × (a ≡ b)

module _ (m c : List ℕ) (w l : ℕ) (hw : w < 2 ^ 24) (o p : Outcome) (a b : List ℕ) where
  alike : (x y : ℕ) (d e k : ℕ) → (x ≡ y) × (d ≡ e) → o ≡ corrected_answer x (ones d) k → p ≡ corrected_answer y (ones e) k → a ≡ inverted m d → b ≡ inverted m e → Same o a p b
  unfolding Same
  alike x y d e k q f g i j = (
    f ∙ ap₂ (λ (u v : ℕ). corrected_answer u (ones v) k) q.0 q.1 ∙ sym g,
    i ∙ ap (inverted m) q.1 ∙ sym j,
  )

  one_right : Right m c w l o a → Right m c w l p b → Same o a p b
  unfolding Same NoneDense LowestDense LowestFit
  one_right (clean h f i) (clean g e j) = (f ∙ sym e, i ∙ sym j)
  one_right (clean h f i) (dense n v g e j) = absurd (n h)
  one_right (clean h f i) (no_fit n k g e j) = absurd (n h)
  one_right (clean h f i) (sole n k v d g q e j) = absurd (n h)
  one_right (clean h f i) (several n k v d g q e j) = absurd (n h)
  one_right (dense n u h f i) (clean g e j) = absurd (n g)
  one_right (dense n u h f i) (dense k v g e j) =
      (f ∙ ap dense_answer (lowest_dense_unique c l u v h g) ∙ sym e, i ∙ sym j)
  one_right (dense n u h f i) (no_fit k g q e j) = absurd (g u h.0)
  one_right (dense n u h f i) (sole k g v d q r e j) = absurd (g u h.0)
  one_right (dense n u h f i) (several k g v d q r e j) = absurd (g u h.0)
  one_right (no_fit n h q f i) (clean g e j) = absurd (n g)
  one_right (no_fit n h q f i) (dense k v g e j) = absurd (h v g.0)
  one_right (no_fit n h q f i) (no_fit k g r e j) = (f ∙ sym e, i ∙ sym j)
  one_right (no_fit n h q f i) (sole k g v d r t e j) = absurd (q v d r.0)
  one_right (no_fit n h q f i) (several k g v d r t e j) = absurd (q v d r.0)
  one_right (sole n h u d q r f i) (clean g e j) = absurd (n g)
  one_right (sole n h u d q r f i) (dense k v g e j) = absurd (h v g.0)
  one_right (sole n h u d q r f i) (no_fit k g t e j) = absurd (t u d q.0)
  one_right (sole n h u d q r f i) (sole k g v x t y e j) = alike u v d x sole_mark (lowest_fit_unique m c w hw u d v x q t) f e i j
  one_right (sole n h u d q r f i) (several k g v x t y e j) = absurd (not_only m c w u d v x q r t y)
  one_right (several n h u d q r f i) (clean g e j) = absurd (n g)
  one_right (several n h u d q r f i) (dense k v g e j) = absurd (h v g.0)
  one_right (several n h u d q r f i) (no_fit k g t e j) = absurd (t u d q.0)
  one_right (several n h u d q r f i) (sole k g v x t y e j) = absurd (not_only m c w v x u d t y q r)
  one_right (several n h u d q r f i) (several k g v x t y e j) = alike u v d x several_mark (lowest_fit_unique m c w hw u d v x q t) f e i j

pub only_one_is_right : OnlyOneIsRight
unfolding OnlyOneIsRight OursIsRight Judged Same
only_one_is_right m c w l call o after h =
    one_right m c w l (unrefused m c w l call.2).word_ok o (sensor_outcome m c w l) after (sensor_after m c w l) h (ours_is_right m c w l call)
