-- Demand 3, what concerns the sensor. The statements speak of the relation of document 01 (the sensor's specs/Changes.antt),
-- and not of the search that the code performs.
use Rattle.std.specs.Prelude.{ℕ, ◌<◌, ◌≤◌, ◌≡◌, ◌↔◌, ◌⊎◌, true, List}
use Rattle.std.specs.Int.Count.{ones}
use Rattle.message.specs.Message.{number, Bytes, first_bit_agrees}
use Rattle.outcome.specs.Outcomes.{Outcome, done, Unrefused}
use Rattle.encoder.specs.Seals.{seal_outcome, reply_after}
use Rattle.message.specs.Bits.{last_window, inverted}
use Rattle.division.specs.Division.{Carries}
use Rattle.sensor.specs.Changes.{OnLow, Fit, low_marks}
use Rattle.sensor.specs.Verdicts.{sole_mark, several_mark, clean_answer, dense_answer, no_fit_answer, corrected_answer, sensor_outcome, sensor_after}
use Rattle.conformance.specs.Bursts.{Burst}

-- 'Unless a row of the table refuses the call'
unfoldable pub Judged : List ℕ → List ℕ → ℕ → ℕ → Type 0
Judged m c w l = Bytes m × Bytes c × Unrefused (sensor_outcome m c w l)

-- 'some window has more low marks than the limit', and 'the lowest such'
unfoldable pub IsDense : List ℕ → ℕ → ℕ → Type 0
IsDense c l v = (v ≤ last_window c) × (l < low_marks c v)

unfoldable pub LowestDense : List ℕ → ℕ → ℕ → Type 0
LowestDense c l v = IsDense c l v × ((u : ℕ) → u < v → IsDense c l u → ⊥)

unfoldable pub NoneDense : List ℕ → ℕ → Type 0
NoneDense c l = (v : ℕ) → IsDense c l v → ⊥

-- a fit of the lowest window that has one
unfoldable pub LowestFit : List ℕ → List ℕ → ℕ → ℕ → ℕ → Type 0
LowestFit m c w v d = Fit m c w v d × ((u e : ℕ) → u < v → Fit m c w u e → ⊥)

-- 'no other such change exists in any window'
unfoldable pub OnlyChange : List ℕ → List ℕ → ℕ → ℕ → Type 0
OnlyChange m c w d = (u e : ℕ) → Fit m c w u e → e ≡ d

unfoldable pub AnotherChange : List ℕ → List ℕ → ℕ → ℕ → Type 0
AnotherChange m c w d = (u : ℕ) × (e : ℕ) × Fit m c w u e × (e ≡ d → ⊥)

-- The right answer to a call, and the right message after it: document 01's rows, each with its condition.
pub data Right (m c : List ℕ) (w l : ℕ) (o : Outcome) (after : List ℕ) : Type 0 where
  clean : Carries (number m) w → o ≡ clean_answer → after ≡ m → Right m c w l o after
  dense : (Carries (number m) w → ⊥) → (v : ℕ) → LowestDense c l v → o ≡ dense_answer v → after ≡ m → Right m c w l o after
  no_fit : (Carries (number m) w → ⊥) → NoneDense c l → ((v d : ℕ) → Fit m c w v d → ⊥) → o ≡ no_fit_answer → after ≡ m → Right m c w l o after
  sole : (Carries (number m) w → ⊥) → NoneDense c l → (v d : ℕ) → LowestFit m c w v d → OnlyChange m c w d
      → o ≡ corrected_answer v (ones d) sole_mark → after ≡ inverted m d → Right m c w l o after
  several : (Carries (number m) w → ⊥) → NoneDense c l → (v d : ℕ) → LowestFit m c w v d → AnotherChange m c w d
      → o ≡ corrected_answer v (ones d) several_mark → after ≡ inverted m d → Right m c w l o after

-- Ours is right, and only ours is right: exactly one of the five conditions holds of a call.
unfoldable pub OursIsRight : Type 0
OursIsRight =
    (m c : List ℕ) (w l : ℕ) → Judged m c w l → Right m c w l (sensor_outcome m c w l) (sensor_after m c w l)

unfoldable pub OnlyOneIsRight : Type 0
OnlyOneIsRight =
    (m c : List ℕ) (w l : ℕ) → Judged m c w l → (o : Outcome) (after : List ℕ) → Right m c w l o after
    → (o ≡ sensor_outcome m c w l) × (after ≡ sensor_after m c w l)

-- 'the sensor says 'clean' exactly to a reply that carries the expected word, whatever the confidence marks'
unfoldable pub SaysClean : Type 0
SaysClean =
    (m c : List ℕ) (w l : ℕ) → Judged m c w l → (sensor_outcome m c w l ≡ clean_answer) ↔ Carries (number m) w

-- 'To any other it says 'dense' exactly when some window has more low marks than the limit, and names the lowest such.'
unfoldable pub SaysDense : Type 0
SaysDense =
    (m c : List ℕ) (w l : ℕ) → Judged m c w l → (Carries (number m) w → ⊥)
    → (((v : ℕ) × (sensor_outcome m c w l ≡ dense_answer v)) ↔ ((v : ℕ) × IsDense c l v))
    × ((v : ℕ) → (sensor_outcome m c w l ≡ dense_answer v) ↔ LowestDense c l v)

-- 'Otherwise it says 'no fit' exactly when no change confined to low-confidence bits of one window makes the reply carry the
-- word.'
unfoldable pub SaysNoFit : Type 0
SaysNoFit =
    (m c : List ℕ) (w l : ℕ) → Judged m c w l → (Carries (number m) w → ⊥) → NoneDense c l
    → (sensor_outcome m c w l ≡ no_fit_answer) ↔ ((v d : ℕ) → Fit m c w v d → ⊥)

-- 'Otherwise it applies the only such change in the lowest window that has one, and reports that window and the count of bits
-- changed. It says 'sole' exactly when no other such change exists in any window, else 'several'.'
pub record Correction (m c : List ℕ) (w l : ℕ) : Type 0 where
  pub window : ℕ
  pub change : ℕ
  pub mark : ℕ
  pub answered : sensor_outcome m c w l ≡ corrected_answer window (ones change) mark
  pub fits : Fit m c w window change
  pub lowest : (u e : ℕ) → u < window → Fit m c w u e → ⊥
  pub only : (e : ℕ) → Fit m c w window e → e ≡ change
  pub applied : sensor_after m c w l ≡ inverted m change
  pub carries : Carries (number (sensor_after m c w l)) w
  pub sole : (mark ≡ sole_mark) ↔ OnlyChange m c w change
  pub several : (mark ≡ several_mark) ↔ AnotherChange m c w change
  pub either : (mark ≡ sole_mark) ⊎ (mark ≡ several_mark)

unfoldable pub Corrects : Type 0
Corrects =
    (m c : List ℕ) (w l : ℕ) → Judged m c w l → (Carries (number m) w → ⊥) → NoneDense c l
    → (v d : ℕ) → Fit m c w v d → Correction m c w l

-- 'a fit must also leave the corrected message with a first bit that agrees with its length' (document 02, Point 11): so every
-- corrected message has one.
unfoldable pub CorrectedAgrees : Type 0
CorrectedAgrees =
    (m c : List ℕ) (w l : ℕ) → Judged m c w l → (v n k : ℕ) → sensor_outcome m c w l ≡ corrected_answer v n k → first_bit_agrees (sensor_after m c w l) ≡ true

-- In every other answer no byte changes, refusals among them.
unfoldable pub OthersLeave : Type 0
OthersLeave =
    (m c : List ℕ) (w l : ℕ) → Bytes m → Bytes c → ((v n k : ℕ) → sensor_outcome m c w l ≡ corrected_answer v n k → ⊥) → sensor_after m c w l ≡ m

-- 'A reply sealed for that word and hit by such a burst, on low-confidence bits only, never gets 'no fit', and comes back as
-- sent when 'sole'.' Nor is it clean.
unfoldable pub HitReply : Type 0
HitReply =
    (m c : List ℕ) (w l v d : ℕ) → Bytes m → seal_outcome m w ≡ done
    → Burst (reply_after m w) v d → OnLow c d → Judged (inverted (reply_after m w) d) c w l
    → (sensor_outcome (inverted (reply_after m w) d) c w l ≡ no_fit_answer → ⊥)
    × (sensor_outcome (inverted (reply_after m w) d) c w l ≡ clean_answer → ⊥)
    × ((u n : ℕ) → sensor_outcome (inverted (reply_after m w) d) c w l ≡ corrected_answer u n sole_mark
    → sensor_after (inverted (reply_after m w) d) c w l ≡ reply_after m w)
