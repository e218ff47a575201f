-- The calls from C. The idea: what a call answers is listed by theorems that stand already (which refusals there are, which
-- answer of the transponder is due, which of the sensor is right), and of all that is listed `mode_s` has the one_to_one map.
use mathlib.Core.Path.{◌≡◌, refl, sym, ap, ◌∙◌, subst}
use mathlib.Core.Logic.{◌⊎◌, inl, inr}
use mathlib.Core.List.{List, [], ◌∷◌}
use Prim.Native.Nat.{ℕ, ◌*◌, ◌^◌, ◌<◌, ◌≤◌}
use native.Mathlib.Omega.{arith}
use lib.Count.{ones, ones-le}
use lib.Dec.{lit≤}
use lib.ListN.{length}
use Rattle.outcome.specs.Outcomes.{Outcome, Unrefused}
use Rattle.outcome.specs.Outcomes.Outcome.{refusal, answer}
use Rattle.outcome.proofs.Laws.{positive, refusal_is_no_answer}
use Rattle.message.specs.Message.{Bytes}
use Rattle.message.specs.Bits.{place, last_window, InWindow}
use Rattle.notices.proofs.Laws.{ones_shl, ones_zero}
use Rattle.encoder.specs.Seals.{seal_outcome}
use Rattle.encoder.proofs.Laws.{answered-done}
use Rattle.transponder.specs.Receptions.{reception_outcome, answered}
use Rattle.transponder.specs.declared.Reception.{Reception}
use Rattle.transponder.specs.declared.Reception.TheVariants as R
use Rattle.sensor.specs.Changes.{Fit}
use Rattle.sensor.specs.Verdicts.{sole_mark, several_mark, corrected_answer, sensor_outcome, sensor_after}
use Rattle.sensor.proofs.Laws.{Admitted, sizes, unrefused}
use Rattle.remainders.specs.Recording.{remainders_outcome}
use Rattle.remainders.proofs.Laws.{divided_done}
use Rattle.mode_s.specs.Packing.{Source, Possible, GivesBack, OneToOne}
use Rattle.mode_s.specs.Packing.Source.{seal, transponder, sensor, recording}
use Rattle.mode_s.specs.Packing.Possible.{refused_by, sealed, own, all_call, broadcast, not_ours, clean, dense, no_fit, corrected, divided}
use Rattle.mode_s.proofs.Laws.{gives_back, one_to_one, same-answer-same-number}
use Rattle.conformance.specs.Refusals.{Part, row, Call, handed, outcome, Breaks, SomeBreaks, Applies, RefusedByLowest}
use Rattle.conformance.specs.Refusals.Call.{seal_reply as seal_call, receive as receive_call, correct as correct_call, divide_replies}
use Rattle.conformance.specs.Accepting.{Due, OursIsDue}
use Rattle.conformance.specs.Correcting.{Judged, IsDense, LowestDense, LowestFit, Right, OursIsRight}
use Rattle.conformance.specs.Correcting.Right.{clean as is_clean, dense as is_dense, no_fit as is_no_fit, sole as is_sole, several as is_several}
use Rattle.conformance.specs.Packing.{FromC, source_of, outcome_of, OfBytes, AnswersArePossible, NumbersTellAnswers, NumberGivesAnswer}
use Rattle.conformance.specs.Packing.FromC.{seal_reply, seal_interrogation, receive, correct, divide}
use Rattle.conformance.proofs.Refusals.{refused_by_lowest}
use Rattle.conformance.proofs.Accepting.{ours_is_due}
use Rattle.conformance.proofs.Right.{ours_is_right}

-- ---- refusals

-- an outcome is a refusal or no row refuses it
split : (o : Outcome) → ((n : ℕ) × (o ≡ refusal n)) ⊎ ((n : ℕ) × (vs : List ℕ) × (o ≡ answer n vs))
split (refusal n) = inl (n, refl)
split (answer n vs) = inr (n, vs, refl)

is_unrefused : {o : Outcome} {n : ℕ} {vs : List ℕ} → o ≡ answer n vs → Unrefused o
is_unrefused e k r = refusal_is_no_answer (sym r ∙ e)

-- the rows of some parts are among the first six
FirstSix : List Part → Type 0
FirstSix [] = Unit {0}
FirstSix (p ∷ ps) = (1 ≤ row p) × (row p ≤ 6) × FirstSix ps

in_first_six : (n : ℕ) (ps : List Part) → FirstSix ps → SomeBreaks n ps → (1 ≤ n) × (n ≤ 6)
unfolding FirstSix SomeBreaks Breaks
in_first_six n [] h b = absurd b
in_first_six n (p ∷ ps) h (inl b) = (subst (λ (k : ℕ). 1 ≤ k) b.0 h.0, subst (λ (k : ℕ). k ≤ 6) b.0 h.1)
in_first_six n (p ∷ ps) h (inr b) = in_first_six n ps h.2 b

-- so a call that hands over such parts is refused by one of them
refused_possible : (s : Source) (c : Call) (n : ℕ) → FirstSix (handed c) → outcome c ≡ refusal n → Possible s (outcome c)
unfolding RefusedByLowest Applies
refused_possible s c n h e =
    let r = in_first_six n (handed c) h ((refused_by_lowest c n).0 e).0 in
    subst (Possible s) (sym e) (refused_by s n r.0 r.1)

-- ---- answers

seal_possible : (m : List ℕ) (w : ℕ) → Possible seal (seal_outcome m w)
unfolding FirstSix outcome handed row
seal_possible m w = by (split (seal_outcome m w))
  where
    by : ((n : ℕ) × (seal_outcome m w ≡ refusal n)) ⊎ ((n : ℕ) × (vs : List ℕ) × (seal_outcome m w ≡ answer n vs)) → Possible seal (seal_outcome m w)
    by (inl (n, e)) = refused_possible seal (seal_call m w) n (lit≤ tt, lit≤ tt, (lit≤ tt, lit≤ tt, (lit≤ tt, lit≤ tt, tt))) e
    by (inr (n, vs, e)) = subst (Possible seal) (sym (answered-done m w n vs e)) sealed

-- the answer that is due
due_possible : (a : ℕ) (m : List ℕ) (r : Reception) → Due a m r → Possible transponder (answered r)
unfolding Due
due_possible a m R.Own d = own
due_possible a m R.AllCall d = all_call
due_possible a m R.Broadcast d = broadcast
due_possible a m (R.NotOurs b) d = not_ours b d.0

reception_possible : (a : ℕ) (m : List ℕ) → Possible transponder (reception_outcome a m)
unfolding FirstSix outcome handed row OursIsDue
reception_possible a m = by (split (reception_outcome a m))
  where
    by : ((n : ℕ) × (reception_outcome a m ≡ refusal n)) ⊎ ((n : ℕ) × (vs : List ℕ) × (reception_outcome a m ≡ answer n vs)) → Possible transponder (reception_outcome a m)
    by (inl (n, e)) = refused_possible transponder (receive_call a m) n (lit≤ tt, lit≤ tt, (lit≤ tt, lit≤ tt, (lit≤ tt, lit≤ tt, (lit≤ tt, lit≤ tt, tt)))) e
    by (inr (n, vs, e)) =
        let d = ours_is_due a m (is_unrefused e) in
        subst (Possible transponder) (sym d.1) (due_possible a m d.0 d.2)

-- the answer that is right, of 7 or 14 bytes
last_le : (m : List ℕ) (v : ℕ) → length m ≤ 14 → v ≤ last_window m → v ≤ 88
last_le m v h l = omega arith

change_ones : (m c : List ℕ) (w v d : ℕ) → Fit m c w v d → (1 ≤ ones d) × (ones d ≤ 24)
unfolding Fit
change_ones m c w v d f =
    let p : ℕ = f.0.1 in
    let same : ones d ≡ ones p = ap ones f.0.4 ∙ ones_shl p (place m v) in
    let some : 0 < ones p = positive (ones p) (λ e. let z : p ≡ 0 = ones_zero p e in omega (arith, f.0.2)) in
    (omega arith, omega (arith, ones-le 24 p f.0.3))

right_possible : (m c : List ℕ) (w l : ℕ) (o : Outcome) (after : List ℕ) → length m ≤ 14 → length c ≤ 14 → Right m c w l o after → Possible sensor o
unfolding LowestDense IsDense LowestFit Fit
right_possible m c w l o after hm hc (is_clean _ e _) = subst (Possible sensor) (sym e) clean
right_possible m c w l o after hm hc (is_dense _ v d e _) = subst (Possible sensor) (sym e) (dense v (last_le c v hc d.0.0))
right_possible m c w l o after hm hc (is_no_fit _ _ _ e _) = subst (Possible sensor) (sym e) no_fit
right_possible m c w l o after hm hc (is_sole _ _ v d f _ e _) =
    subst (Possible sensor) (sym e) (corrected v (ones d) sole_mark (last_le m v hm f.0.0.0) (change_ones m c w v d f.0).0 (change_ones m c w v d f.0).1 (inl refl))
right_possible m c w l o after hm hc (is_several _ _ v d f _ e _) =
    subst (Possible sensor) (sym e) (corrected v (ones d) several_mark (last_le m v hm f.0.0.0) (change_ones m c w v d f.0).0 (change_ones m c w v d f.0).1 (inr refl))

verdict_possible : (m c : List ℕ) (w l : ℕ) → Bytes m → Bytes c → Possible sensor (sensor_outcome m c w l)
unfolding FirstSix outcome handed row OursIsRight Judged
verdict_possible m c w l bm bc = by (split (sensor_outcome m c w l))
  where
    by : ((n : ℕ) × (sensor_outcome m c w l ≡ refusal n)) ⊎ ((n : ℕ) × (vs : List ℕ) × (sensor_outcome m c w l ≡ answer n vs)) → Possible sensor (sensor_outcome m c w l)
    by (inl (n, e)) = refused_possible sensor (correct_call m c w l) n (lit≤ tt, lit≤ tt, (lit≤ tt, lit≤ tt, (lit≤ tt, lit≤ tt, (lit≤ tt, lit≤ tt, tt)))) e
    by (inr (n, vs, e)) =
        let a = unrefused m c w l (is_unrefused e) in
        let h : length m ≤ 14 = (sizes (length m) a.length_ok).1 in
        right_possible m c w l (sensor_outcome m c w l) (sensor_after m c w l) h
        (subst (λ (k : ℕ). k ≤ 14) (sym a.same_length) h) (ours_is_right m c w l (bm, bc, is_unrefused e))

recording_possible : (s words : List ℕ) → Possible recording (remainders_outcome s (length words))
unfolding FirstSix outcome handed row
recording_possible s words = by (split (remainders_outcome s (length words)))
  where
    by : ((n : ℕ) × (remainders_outcome s (length words) ≡ refusal n)) ⊎ ((n : ℕ) × (vs : List ℕ) × (remainders_outcome s (length words) ≡ answer n vs)) → Possible recording (remainders_outcome s (length words))
    by (inl (n, e)) = refused_possible recording (divide_replies s words) n (lit≤ tt, lit≤ tt, tt) e
    by (inr (n, vs, e)) = subst (Possible recording) (sym (divided_done s (length words) n vs e)) divided

-- ---- the theorems

pub answers_are_possible : AnswersArePossible
unfolding AnswersArePossible
answers_are_possible (seal_reply m w) b = seal_possible m w
answers_are_possible (seal_interrogation m a) b = seal_possible m a
answers_are_possible (receive a m) b = reception_possible a m
answers_are_possible (correct m c w l) b = verdict_possible m c w l b.0 b.1
answers_are_possible (divide s words) b = recording_possible s words

pub numbers_tell_answers : NumbersTellAnswers
unfolding NumbersTellAnswers OneToOne AnswersArePossible
numbers_tell_answers j k bj bk = (
  one_to_one (source_of j) (source_of k) (outcome_of j) (outcome_of k) (answers_are_possible j bj) (answers_are_possible k bk),
  same-answer-same-number (source_of j) (source_of k) (outcome_of j) (outcome_of k),
)

pub number_gives_answer : NumberGivesAnswer
unfolding NumberGivesAnswer GivesBack AnswersArePossible
number_gives_answer k b = gives_back (source_of k) (outcome_of k) (answers_are_possible k b)
