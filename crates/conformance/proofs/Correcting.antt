-- Demand 3, sentence by sentence: each follows from `ours_is_right` and `only_one_is_right`.
use mathlib.Core.Path.{◌≡◌, refl, sym, ap, ◌∙◌, subst}
use mathlib.Core.Logic.{◌⊎◌, inl, inr}
use mathlib.Core.List.{List}
use Prim.Native.Nat.{ℕ, ◌-◌, ◌*◌, ◌^◌, ◌<◌, ◌≤◌}
use native.Mathlib.Omega.{arith}
use lib.Bits.{bit_xor}
use lib.Count.{ones}
use lib.ListN.{length, get_or}
use Rattle.division.specs.Division.{remainder, parity}
use mathlib.Core.Bool.{true}
use Rattle.message.specs.Message.{number, Bytes, field, is_message_length, first_bit_agrees}
use Rattle.outcome.specs.Outcomes.{Outcome, done}
use Rattle.outcome.proofs.Laws.{refusal_is_no_answer, same_answer}
use Rattle.outcome.specs.Outcomes.Outcome.{refusal, answer}
use Rattle.division.proofs.Laws.{xor_cancel_r}
use Rattle.message.proofs.Laws.{message-length, message-length_ge, in_window_lt, same-first_bit}
use Rattle.encoder.specs.Seals.{with_parity, seal_outcome, reply_after}
use Rattle.encoder.proofs.Laws.{was_accepted, reply-after, reply_is, reply-lt, sealed-length, sealed-bytes, sealed_first}
use Rattle.message.specs.Bits.{last_window, inverted}
use Rattle.division.specs.Division.{Carries}
use Rattle.sensor.specs.Changes.{OnLow, Fit}
use Rattle.sensor.specs.Verdicts.{sole_mark, several_mark, clean_answer, dense_answer, no_fit_answer, corrected_answer, sensor_outcome, sensor_after}
use Rattle.message.proofs.Laws.{inverted-number, inverted-bytes, inverted-length, inverted_by_number}
use Rattle.sensor.proofs.Laws.{Admitted, unrefused, after-refused, fit_is, sizes}
use Rattle.conformance.specs.Sealing.{Message, ReplyCarries}
use Rattle.conformance.specs.Bursts.{Burst}
use Rattle.conformance.specs.Correcting.{Judged, IsDense, LowestDense, NoneDense, LowestFit, OnlyChange, AnotherChange, Right, OursIsRight, OnlyOneIsRight, SaysClean, SaysDense, SaysNoFit, Correction, Corrects, CorrectedAgrees, OthersLeave, HitReply}
use Rattle.conformance.specs.Correcting.Right.{clean, dense, no_fit, sole, several}
use Rattle.conformance.proofs.Right.{ours_is_right, only_one_is_right}
use Rattle.conformance.proofs.Sealing.{reply_carries}
use Rattle.conformance.proofs.Accepting.{hit_differs}

module _ (m c : List ℕ) (w l : ℕ) (call : Judged m c w l) where
  O : Outcome
  O = sensor_outcome m c w l

  right : Right m c w l (sensor_outcome m c w l) (sensor_after m c w l)
  unfolding OursIsRight
  right = ours_is_right m c w l call

  is_right : (o : Outcome) (after : List ℕ) → Right m c w l o after → sensor_outcome m c w l ≡ o
  unfolding OnlyOneIsRight
  is_right o after h = sym (only_one_is_right m c w l call o after h).0

-- ---- clean

pub says_clean : SaysClean
unfolding SaysClean
says_clean m c w l call = (there (right m c w l call), λ h. is_right m c w l call (clean_answer) m (clean h refl refl))
  where
    there : Right m c w l (sensor_outcome m c w l) (sensor_after m c w l) → sensor_outcome m c w l ≡ clean_answer → Carries (number m) w
    there (clean h e i) o = h
    there (dense n v h e i) o = absurd (omega (arith, same_answer (sym o ∙ e)))
    there (no_fit n h f e i) o = absurd (omega (arith, same_answer (sym o ∙ e)))
    there (sole n h v d f q e i) o = absurd (omega (arith, same_answer (sym o ∙ e)))
    there (several n h v d f q e i) o = absurd (omega (arith, same_answer (sym o ∙ e)))

-- ---- dense

pub says_dense : SaysDense
unfolding SaysDense LowestDense NoneDense
says_dense m c w l call n = (
  (
    (λ t. (t.0, (named (right m c w l call) t.0 t.1).0)),
    (λ t. some (right m c w l call) t.0 t.1),
  ),
  λ v. (named (right m c w l call) v, λ h. is_right m c w l call (dense_answer v) m (dense n v h refl refl)),
)
  where
    named : Right m c w l (sensor_outcome m c w l) (sensor_after m c w l) → (v : ℕ) → sensor_outcome m c w l ≡ dense_answer v → LowestDense c l v
    named (clean h e i) v o = absurd (n h)
    named (dense k u h e i) v o =
        let q : dense_answer u ≡ dense_answer v = sym e ∙ o in
        let same : u ≡ v = cc in
        subst (LowestDense c l) same h
    named (no_fit k h f e i) v o = absurd (omega (arith, same_answer (sym o ∙ e)))
    named (sole k h u d f q e i) v o = absurd (omega (arith, same_answer (sym o ∙ e)))
    named (several k h u d f q e i) v o = absurd (omega (arith, same_answer (sym o ∙ e)))

    some : Right m c w l (sensor_outcome m c w l) (sensor_after m c w l) → (v : ℕ) → IsDense c l v → (u : ℕ) × (sensor_outcome m c w l ≡ dense_answer u)
    some (clean h e i) v d = absurd (n h)
    some (dense k u h e i) v d = (u, e)
    some (no_fit k h f e i) v d = absurd (h v d)
    some (sole k h u x f q e i) v d = absurd (h v d)
    some (several k h u x f q e i) v d = absurd (h v d)

-- ---- no fit

pub says_no_fit : SaysNoFit
unfolding SaysNoFit NoneDense LowestDense LowestFit
says_no_fit m c w l call n k = (there (right m c w l call), λ h. is_right m c w l call (no_fit_answer) m (no_fit n k h refl refl))
  where
    there : Right m c w l (sensor_outcome m c w l) (sensor_after m c w l) → sensor_outcome m c w l ≡ no_fit_answer → (v d : ℕ) → Fit m c w v d → ⊥
    there (clean h e i) o = absurd (n h)
    there (dense q v h e i) o = absurd (k v h.0)
    there (no_fit q h f e i) o = f
    there (sole q h v d f r e i) o = absurd (omega (arith, same_answer (sym o ∙ e)))
    there (several q h v d f r e i) o = absurd (omega (arith, same_answer (sym o ∙ e)))

-- ---- corrected

carried : (m c : List ℕ) (w v d : ℕ) (after : List ℕ) → Bytes m → 3 ≤ length m → Fit m c w v d → after ≡ inverted m d → Carries (number after) w
unfolding Fit
carried m c w v d after hm ge f e =
    ap (λ (t : List ℕ). remainder (number t)) e ∙ ap remainder (inverted-number m d hm (in_window_lt m v d ge f.0)) ∙ f.2

pub corrects : Corrects
unfolding Corrects Judged NoneDense LowestDense LowestFit OnlyChange AnotherChange
corrects m c w l call n k v d f = by (right m c w l call)
  where
    ok : Admitted (length m) (length c) w l
    ok = unrefused m c w l call.2

    ge : 3 ≤ length m
    ge = (sizes (length m) ok.length_ok).0

    by : Right m c w l (sensor_outcome m c w l) (sensor_after m c w l) → Correction m c w l
    by (clean h e i) = absurd (n h)
    by (dense q u h e i) = absurd (k u h.0)
    by (no_fit q h g e i) = absurd (g v d f)
    by (sole q h u x g r e i) =
        record {
          window = u;
          change = x;
          mark = sole_mark;
          answered = e;
          fits = g.0;
          lowest = g.1;
          only = λ y t. r u y t;
          applied = i;
          carries = carried m c w u x (sensor_after m c w l) call.0 ge g.0 i;
          sole = (λ z. r, λ z. refl);
          several = (λ z. absurd (omega arith), λ z. absurd (z.3 (r z.0 z.1 z.2)));
          either = inl refl;
        }
    by (several q h u x g r e i) =
        record {
          window = u;
          change = x;
          mark = several_mark;
          answered = e;
          fits = g.0;
          lowest = g.1;
          only = λ y t. (fit_is m c w ok.word_ok u y t).0 ∙ sym (fit_is m c w ok.word_ok u x g.0).0;
          applied = i;
          carries = carried m c w u x (sensor_after m c w l) call.0 ge g.0 i;
          sole = (λ z. absurd (omega arith), λ z. absurd (r.3 (z r.0 r.1 r.2)));
          several = (λ z. r, λ z. refl);
          either = inr refl;
        }

-- ---- the first bit of a corrected message

pub corrected_agrees : CorrectedAgrees
unfolding CorrectedAgrees LowestFit Fit
corrected_agrees m c w l call v n k o = by (right m c w l call)
  where
    by : Right m c w l (sensor_outcome m c w l) (sensor_after m c w l) → first_bit_agrees (sensor_after m c w l) ≡ true
    by (clean h e i) = absurd (omega (arith, same_answer (sym o ∙ e)))
    by (dense q u h e i) = absurd (omega (arith, same_answer (sym o ∙ e)))
    by (no_fit q h g e i) = absurd (omega (arith, same_answer (sym o ∙ e)))
    by (sole q h u x g r e i) = ap first_bit_agrees i ∙ g.0.3
    by (several q h u x g r e i) = ap first_bit_agrees i ∙ g.0.3

-- ---- in every other answer no byte changes

pub others_leave : OthersLeave
unfolding OthersLeave Judged
others_leave m c w l hm hc h = by (sensor_outcome m c w l) refl
  where
    row : (r : ℕ) (vs : List ℕ) → sensor_outcome m c w l ≡ answer r vs → Right m c w l (sensor_outcome m c w l) (sensor_after m c w l) → sensor_after m c w l ≡ m
    row r vs e (clean k f i) = i
    row r vs e (dense n v k f i) = i
    row r vs e (no_fit n k g f i) = i
    row r vs e (sole n k v d g q f i) = absurd (h v (ones d) sole_mark f)
    row r vs e (several n k v d g q f i) = absurd (h v (ones d) several_mark f)

    by : (o : Outcome) → sensor_outcome m c w l ≡ o → sensor_after m c w l ≡ m
    by (refusal n) e = after-refused m c w l n e
    by (answer r vs) e =
        row r vs e
        (right m c w l (hm, hc, λ n q. refusal_is_no_answer (sym q ∙ e)))

-- ---- a reply that was sealed and hit

module _ (m c : List ℕ) (w l v d : ℕ) (hm : Bytes m) (e : seal_outcome m w ≡ done) (b : Burst (reply_after m w) v d) where
  abbrev pub sent : List ℕ
  sent = reply_after m w

  abbrev pub hit : List ℕ
  hit = inverted sent d

  ok-seal : (is_message_length (length m) ≡ true) × (w < 2 ^ 24) × (first_bit_agrees m ≡ true)
  ok-seal = was_accepted m w e

  large : 3 ≤ length m
  large = message-length_ge (length m) ok-seal.0

  sent_is : sent ≡ with_parity m (bit_xor (parity (number (field m))) w)
  sent_is = reply-after m w e ∙ reply_is m w

  sent-bytes : Bytes sent
  sent-bytes = subst Bytes (sym sent_is) (sealed-bytes m (bit_xor (parity (number (field m))) w) large hm (reply-lt m w ok-seal.1))

  sent-length : length sent ≡ length m
  sent-length = ap length sent_is ∙ sealed-length m (bit_xor (parity (number (field m))) w) large

  sent-large : 3 ≤ length sent
  sent-large = subst (λ (n : ℕ). 3 ≤ n) (sym sent-length) large

  sent_carries : remainder (number sent) ≡ w
  unfolding ReplyCarries Message
  sent_carries = ap (λ (t : List ℕ). remainder (number t)) (reply-after m w e) ∙ (reply_carries m w w (hm, ok-seal.0) ok-seal.1).1 refl

  small : d < 2 ^ (8 * length sent)
  unfolding Burst
  small = in_window_lt sent v d sent-large b

  hit-number : number hit ≡ bit_xor (number sent) d
  hit-number = inverted-number sent d sent-bytes small

  hit-length : length hit ≡ length sent
  hit-length = inverted-length sent d

  not-clean : Carries (number hit) w → ⊥
  not-clean h = hit_differs sent v d sent-bytes sent-large b (h ∙ sym sent_carries)

  restored : inverted hit d ≡ sent
  restored =
      sym (inverted_by_number sent hit d sent-bytes (inverted-bytes sent d) (sym hit-length) (subst (λ (n : ℕ). d < 2 ^ (8 * n)) (sym hit-length) small)
      (sym (ap (λ (n : ℕ). bit_xor n d) hit-number ∙ xor_cancel_r (number sent) d)))

  -- a seal leaves the first bit, which agreed
  sent-agrees : first_bit_agrees sent ≡ true
  sent-agrees =
      same-first_bit sent m
      (ap (λ (t : List ℕ). get_or t 0 0) sent_is ∙ sealed_first m (bit_xor (parity (number (field m))) w) (four (message-length (length m) ok-seal.0))) sent-length
      ∙ ok-seal.2
    where
      four : (length m ≡ 7) ⊎ (length m ≡ 14) → 4 ≤ length m
      four (inl e) = omega arith
      four (inr e) = omega arith

  -- the burst itself is a fit
  pub undone : OnLow c d → Fit hit c w v d
  unfolding Fit Burst
  undone low =
      let lasts : last_window hit ≡ last_window sent = ap (λ (n : ℕ). 8 * n - 24) hit-length in (
        (
          subst (λ (n : ℕ). v ≤ n) (sym lasts) b.0,
          b.1,
          b.2,
          b.3,
          b.4 ∙ ap (λ (n : ℕ). b.1 * 2 ^ (n - v)) (sym lasts),
        ),
        low,
        ap (λ (n : ℕ). remainder (bit_xor n d)) hit-number ∙ ap remainder (xor_cancel_r (number sent) d) ∙ sent_carries,
        ap first_bit_agrees restored ∙ sent-agrees,
      )

pub hit_reply : HitReply
unfolding HitReply SaysClean OnlyChange LowestFit NoneDense
hit_reply m c w l v d hm e b low call =
    (no_fit_lem (right h c w l call), (λ o. not-clean m c w l v d hm e b ((says_clean h c w l call).0 o)), λ u n. back (right h c w l call) u n)
  where
    h : List ℕ
    h = inverted (reply_after m w) d

    fit : Fit h c w v d
    fit = undone m c w l v d hm e b low

    no_fit_lem : Right h c w l (sensor_outcome h c w l) (sensor_after h c w l) → sensor_outcome h c w l ≡ no_fit_answer → ⊥
    no_fit_lem (clean k f i) o = omega (arith, same_answer (sym o ∙ f))
    no_fit_lem (dense n x k f i) o = omega (arith, same_answer (sym o ∙ f))
    no_fit_lem (no_fit n k g f i) o = g v d fit
    no_fit_lem (sole n k x y g q f i) o = omega (arith, same_answer (sym o ∙ f))
    no_fit_lem (several n k x y g q f i) o = omega (arith, same_answer (sym o ∙ f))

    back : Right h c w l (sensor_outcome h c w l) (sensor_after h c w l) → (u n : ℕ) → sensor_outcome h c w l ≡ corrected_answer u n sole_mark → sensor_after h c w l ≡ reply_after m w
    back (clean k f i) u n o = absurd (omega (arith, same_answer (sym o ∙ f)))
    back (dense z x k f i) u n o = absurd (omega (arith, same_answer (sym o ∙ f)))
    back (no_fit z k g f i) u n o = absurd (omega (arith, same_answer (sym o ∙ f)))
    back (sole z k x y g q f i) u n o = i ∙ ap (inverted h) (sym (q v d fit)) ∙ restored m c w l v d hm e b
    back (several z k x y g q f i) u n o =
        let marks : corrected_answer u n sole_mark ≡ corrected_answer x (ones y) several_mark = sym o ∙ f in
        let differ : ◌≡◌ {A = ℕ} 1 2 = cc in
        absurd (omega arith)
