-- Demand 1, refusals. The idea: each call's outcome is a chain of tests, one for each part that it hands over, in the order of
-- the table; one induction over such a chain serves every call, and each row's test is passed exactly when the part is not
-- wrong.
use mathlib.Core.Path.{◌≡◌, refl, sym, ap, ap₂, ◌∙◌, subst}
use mathlib.Core.Logic.{◌⊎◌, inl, inr}
use mathlib.Core.List.{List, [], ◌∷◌}
use mathlib.Core.Bool.{Bool, true, false, not, cond}
use Prim.Native.Nat.{ℕ, ◌<◌, ◌≤◌}
use native.Mathlib.Nat.{eq-or-lt_of_le, lt_irrefl}
use native.Mathlib.Omega.{arith}
use lib.Dec.{lit≤}
use lib.ListN.{length}
use Rattle.outcome.specs.Outcomes.{Outcome, value, done, unless, Unrefused}
use Rattle.outcome.specs.Outcomes.Outcome.{refusal, answer}
use Rattle.outcome.proofs.Laws.{never, refusal_is_no_answer, left_of}
use Rattle.message.specs.Message.{number, bit_of, format_number, is_message_length, is_word, first_bit_agrees}
use Rattle.division.specs.Division.{shift_in, backward, overlay, parity, remainder, address_read}
use Rattle.division.specs.Answers.{register_answer, backward_answer, overlay_answer, parity_answer, remainder_answer, address_answer}
use Rattle.encoder.specs.Seals.{seal_outcome, reply_seal, reply_after, interrogation_seal, interrogation_after}
use Rattle.transponder.specs.Receptions.{reception_of, is_reserved, reception_outcome, answered}
use Rattle.transponder.specs.declared.Reception.{Reception}
use Rattle.transponder.specs.declared.Reception.TheVariants.{Own, AllCall, Broadcast, NotOurs}
use Rattle.transponder.proofs.Laws.{Case, case}
use Rattle.sensor.specs.Verdicts.{syndrome, Decision, decision_of, decision_answer, checked, sensor_outcome}
use Rattle.sensor.specs.Verdicts.Decision.{clean, dense, no_fit, corrected}
use Rattle.sensor.proofs.Laws.{after-refused}
use Rattle.altitude.specs.Fields.{has_altitude}
use Rattle.altitude.specs.Answers.{said_field, said_written, reading_of, reading_outcome, writing_outcome}
use Rattle.altitude.specs.declared.Writing.TheVariants.{Written, NoSuchField}
use Rattle.altitude.proofs.Laws.{reading_final, left-refused}
use Rattle.antennas.specs.Antennas.{is_taken, choice_of, answered as answered_antenna}
use Rattle.antennas.specs.declared.Antenna.{Antenna}
use Rattle.antennas.specs.declared.Antenna.TheVariants.{Upper, Lower}
use Rattle.std.specs.Prelude.{Option, Some, None}
use Rattle.antennas.proofs.Laws.{Case as AntennaCase, case as antenna-case, said-by-tests}
use Rattle.rollcall_table.specs.declared.Record.{Record}
use Rattle.rollcall_table.specs.Table.{record_at, holder, is_in}
use Rattle.rollcall_plans.specs.Calls.{found, added, renewed, absent, held, stands, clear_outcome, find_outcome, remove_outcome, add_outcome}
use Rattle.rollcall_meaning.proofs.Laws.{clear_leaves, add_leaves, remove_leaves}
use Rattle.remainders.specs.Recording.{remainders_of, remainders_outcome, remainders_after}
use Rattle.uplink_elm.specs.declared.Progress.{Progress}
use Rattle.uplink_elm.specs.Receiving.{progress_of, with_progress, receiver_after}
use Rattle.uplink_elm.proofs.Laws.{onward, by-reception, refused_leaves as segment-leaves}
use Rattle.uplink_elm_sending.specs.Sending.{segment_count, last_numbers, round_numbers, last_outcome, round_outcome}
use Rattle.uplink_elm_sending.proofs.Laws.{opening-leaves, exchange-leaves, round-leaves}
use Rattle.conformance.specs.Refusals.{Part, row, Call, handed, outcome, lent, after, Breaks, SomeBreaks, Applies, RefusedByLowest, UnrefusedWhereNone, RefusedLeaves}
use Rattle.conformance.specs.Refusals.Call.{register_step, register_back, uplink_overlay, field_parity, message_remainder, address_read as read_address, seal_reply, seal_interrogation, receive, correct, read_altitude, write_altitude, taken_antenna, clear_table, add_or_renew, remove_record, find_record, receive_segment, send_opening, send_round, send_exchange, divide_replies}
use Rattle.conformance.specs.Refusals.Lent.{bytes, rollcall, upload, words}
use Rattle.conformance.proofs.Rows.{passes, failed_wrong, wrong_failed}

-- ---- a chain of tests

chain : List Part → Outcome → Outcome
chain [] o = o
chain (p ∷ ps) o = unless (passes p) (row p) (chain ps o)

-- the rows of the parts are in the order of the table
From : ℕ → List Part → Type 0
From n [] = Unit
From n (p ∷ ps) = (n ≤ row p) × From (row p) ps

from_lower : (n : ℕ) (ps : List Part) → From n ps → (k : ℕ) → SomeBreaks k ps → n ≤ k
unfolding From SomeBreaks Breaks
from_lower n [] f k s = absurd s
from_lower n (p ∷ ps) f k (inl b) = omega (arith, f.0, b.0)
from_lower n (p ∷ ps) f k (inr s) = omega (arith, f.0, from_lower (row p) ps f.1 k s)

Lowest : ℕ → List Part → Type 0
Lowest n ps = SomeBreaks n ps × ((k : ℕ) → k < n → SomeBreaks k ps → ⊥)

module _ (o : Outcome) (answered : Unrefused o) where
  refused-lowest : (n j : ℕ) (ps : List Part) → From j ps → chain ps o ≡ refusal n → Lowest n ps
  unfolding chain From Lowest SomeBreaks Breaks
  refused-lowest n j [] f e = absurd (answered n e)
  refused-lowest n j (p ∷ ps) f e = by (passes p) refl e (refused-lowest n (row p) ps f.1)
    where
      by : (t : Bool) → passes p ≡ t → unless t (row p) (chain ps o) ≡ refusal n → (chain ps o ≡ refusal n → Lowest n ps) → Lowest n (p ∷ ps)
      by true q g rest = (inr (rest g).0, λ k l s. none k l s (rest g).1)
        where
          none : (k : ℕ) → k < n → SomeBreaks k (p ∷ ps) → ((k : ℕ) → k < n → SomeBreaks k ps → ⊥) → ⊥
          none k l (inl b) lower = never q (wrong_failed p b.1)
          none k l (inr s) lower = lower k l s
      by false q g rest = (inl (same, failed_wrong p q), λ k l s. none k l s)
        where
          same : row p ≡ n
          same = cc

          none : (k : ℕ) → k < n → SomeBreaks k (p ∷ ps) → ⊥
          none k l (inl b) = lt_irrefl k (subst (λ (x : ℕ). k < x) (sym same ∙ b.0) l)
          none k l (inr s) = omega (arith, same, from_lower (row p) ps f.1 k s)

  lowest-refused : (n j : ℕ) (ps : List Part) → From j ps → Lowest n ps → chain ps o ≡ refusal n
  unfolding chain From Lowest SomeBreaks Breaks
  lowest-refused n j [] f h = absurd h.0
  lowest-refused n j (p ∷ ps) f h = by (passes p) refl h.0 (lowest-refused n (row p) ps f.1)
    where
      by : (t : Bool) → passes p ≡ t → SomeBreaks n (p ∷ ps) → (Lowest n ps → chain ps o ≡ refusal n) → unless t (row p) (chain ps o) ≡ refusal n
      by true q (inl b) rest = absurd (never q (wrong_failed p b.1))
      by true q (inr s) rest = rest (s, λ k l x. h.1 k l (inr x))
      by false q (inl b) rest = ap refusal b.0
      by false q (inr s) rest = equal (eq-or-lt_of_le (from_lower (row p) ps f.1 n s))
        where
          equal : (row p ≡ n) ⊎ (row p < n) → refusal (row p) ≡ refusal n
          equal (inl e) = ap refusal e
          equal (inr l) = absurd (h.1 (row p) l (inl (refl, failed_wrong p q)))

  unrefused-none : (ps : List Part) → Unrefused (chain ps o) → (n : ℕ) → SomeBreaks n ps → ⊥
  unfolding chain SomeBreaks Breaks
  unrefused-none [] u n s = s
  unrefused-none (p ∷ ps) u n s = by (passes p) refl u s (unrefused-none ps)
    where
      by : (t : Bool) → passes p ≡ t → Unrefused (unless t (row p) (chain ps o)) → SomeBreaks n (p ∷ ps)
          → (Unrefused (chain ps o) → (n : ℕ) → SomeBreaks n ps → ⊥) → ⊥
      by true q v (inl b) rest = never q (wrong_failed p b.1)
      by true q v (inr s) rest = rest v n s
      by false q v s rest = v (row p) refl

  none-unrefused : (ps : List Part) → ((n : ℕ) → SomeBreaks n ps → ⊥) → Unrefused (chain ps o)
  unfolding chain SomeBreaks Breaks
  none-unrefused [] h = answered
  none-unrefused (p ∷ ps) h = by (passes p) refl (none-unrefused ps)
    where
      by : (t : Bool) → passes p ≡ t → (((n : ℕ) → SomeBreaks n ps → ⊥) → Unrefused (chain ps o)) → Unrefused (unless t (row p) (chain ps o))
      by true q rest = rest (λ n s. h n (inr s))
      by false q rest = absurd (h (row p) (inl (refl, failed_wrong p q)))

-- ---- each call is such a chain

-- what a call answers where no row applies
final : Call → Outcome
final (register_step r b) = value (shift_in 1 r (bit_of b))
final (register_back r) = value (backward r)
final (uplink_overlay a) = value (overlay a)
final (field_parity f) = value (parity (number f))
final (message_remainder m) = value (remainder (number m))
final (read_address m) = value (address_read (number m))
final (seal_reply m w) = done
final (seal_interrogation m a) = done
final (receive own m) = answered (reception_of own (address_read (number m)) (format_number m))
final (correct m c w l) = decision_answer m (syndrome m w) (decision_of m c w l)
final (read_altitude m) = said_field (reading_of m)
final (write_altitude m z s) = said_written (cond (has_altitude m) Written NoSuchField)
final (taken_antenna own u p l q) = answered_antenna (choice_of own u p l q)
final (clear_table rs ps n) = done
final (add_or_renew rs ps n s) = cond (is_in rs s.address) (cond (stands rs s) renewed held) added
final (remove_record rs ps n a) = cond (is_in rs a) (answer 3 []) absent
final (find_record rs ps n a) = cond (is_in rs a) (found (record_at rs (holder rs a))) absent
final (receive_segment own m r s) = with_progress (answered (reception_of own (address_read (number m)) (format_number m))) (progress_of (receiver_after own m r))
final (send_opening a d b) = value (length (last_numbers (segment_count (length d))))
final (send_round a d k s b) = value (length (round_numbers k (segment_count (length d)) s))
final (send_exchange a d b) = value (length (last_numbers (segment_count (length d))))
final (divide_replies s w) = done

-- the transponder's four rows before the answer of another call
four-rows : (own a f : ℕ) (r : Reception) → Case own a f r → (o : Outcome) (s t u v : Bool)
    → unless s 1 (unless t 3 (unless u 5 (unless v 6 o))) ≡ onward (unless s 1 (unless t 3 (unless u 5 (unless v 6 (answered r))))) o
four-rows own a f r h o true true true true = by r h
  where
    by : (r : Reception) → Case own a f r → o ≡ onward (answered r) o
    by Own h = refl
    by AllCall h = refl
    by Broadcast h = refl
    by (NotOurs b) h = refl
four-rows own a f r h o true true true false = refl
four-rows own a f r h o true true false v = refl
four-rows own a f r h o true false u v = refl
four-rows own a f r h o false t u v = refl

is_chain : (c : Call) → chain (handed c) (final c) ≡ outcome c
unfolding chain passes row handed final outcome register_answer backward_answer overlay_answer parity_answer remainder_answer address_answer seal_outcome reception_outcome sensor_outcome checked reading_outcome writing_outcome clear_outcome add_outcome remove_outcome find_outcome last_outcome round_outcome remainders_outcome
is_chain (register_step r b) = refl
is_chain (register_back r) = refl
is_chain (uplink_overlay a) = refl
is_chain (field_parity f) = refl
is_chain (message_remainder m) = refl
is_chain (read_address m) = refl
is_chain (seal_reply m w) = refl
is_chain (seal_interrogation m a) = refl
is_chain (receive own m) = refl
is_chain (correct m c w l) = refl
is_chain (read_altitude m) = refl
is_chain (write_altitude m z s) = refl
is_chain (taken_antenna own u p l q) = said-by-tests own u p l q
is_chain (clear_table rs ps n) = refl
is_chain (add_or_renew rs ps n s) = refl
is_chain (remove_record rs ps n a) = refl
is_chain (find_record rs ps n a) = refl
is_chain (receive_segment own m r s) =
    four-rows own (address_read (number m)) (format_number m) (reception_of own (address_read (number m)) (format_number m)) (case own (address_read (number m)) (format_number m)) _
    (is_message_length (length m)) (is_word own) (first_bit_agrees m) (not (is_reserved own))
    ∙ by-reception own m r
is_chain (send_opening a d b) = refl
is_chain (send_round a d k s b) = refl
is_chain (send_exchange a d b) = refl
is_chain (divide_replies s w) = refl

in_order_lem : (c : Call) → From 0 (handed c)
unfolding From handed row
in_order_lem (register_step r b) = (lit≤ tt, tt)
in_order_lem (register_back r) = (lit≤ tt, tt)
in_order_lem (uplink_overlay a) = (lit≤ tt, tt)
in_order_lem (field_parity f) = (lit≤ tt, tt)
in_order_lem (message_remainder m) = (lit≤ tt, tt)
in_order_lem (read_address m) = (lit≤ tt, tt)
in_order_lem (seal_reply m w) = (lit≤ tt, (lit≤ tt, (lit≤ tt, tt)))
in_order_lem (seal_interrogation m a) = (lit≤ tt, (lit≤ tt, (lit≤ tt, tt)))
in_order_lem (receive own m) = (lit≤ tt, (lit≤ tt, (lit≤ tt, (lit≤ tt, tt))))
in_order_lem (correct m c w l) = (lit≤ tt, (lit≤ tt, (lit≤ tt, (lit≤ tt, tt))))
in_order_lem (read_altitude m) = (lit≤ tt, (lit≤ tt, tt))
in_order_lem (write_altitude m z s) = (lit≤ tt, (lit≤ tt, (lit≤ tt, tt)))
in_order_lem (taken_antenna own u p l q) = (lit≤ tt, (lit≤ tt, tt))
in_order_lem (clear_table rs ps n) = (lit≤ tt, tt)
in_order_lem (add_or_renew rs ps n s) = (lit≤ tt, (lit≤ tt, (lit≤ tt, tt)))
in_order_lem (remove_record rs ps n a) = (lit≤ tt, (lit≤ tt, tt))
in_order_lem (find_record rs ps n a) = (lit≤ tt, (lit≤ tt, tt))
in_order_lem (receive_segment own m r s) = (lit≤ tt, (lit≤ tt, (lit≤ tt, (lit≤ tt, (lit≤ tt, (lit≤ tt, tt))))))
in_order_lem (send_opening a d b) = (lit≤ tt, (lit≤ tt, (lit≤ tt, tt)))
in_order_lem (send_round a d k s b) = (lit≤ tt, (lit≤ tt, (lit≤ tt, (lit≤ tt, tt))))
in_order_lem (send_exchange a d b) = (lit≤ tt, (lit≤ tt, (lit≤ tt, tt)))
in_order_lem (divide_replies s w) = (lit≤ tt, tt)

reception_final : (own a f : ℕ) (r : Reception) → Case own a f r → Unrefused (answered r)
reception_final own a f Own h n e = refusal_is_no_answer (sym e)
reception_final own a f AllCall h n e = refusal_is_no_answer (sym e)
reception_final own a f Broadcast h n e = refusal_is_no_answer (sym e)
reception_final own a f (NotOurs b) h n e = refusal_is_no_answer (sym e)

segment_final : (own a f : ℕ) (r : Reception) (p : Progress) → Case own a f r → Unrefused (with_progress (answered r) p)
segment_final own a f Own p h n e = refusal_is_no_answer (sym e)
segment_final own a f AllCall p h n e = refusal_is_no_answer (sym e)
segment_final own a f Broadcast p h n e = refusal_is_no_answer (sym e)
segment_final own a f (NotOurs b) p h n e = refusal_is_no_answer (sym e)

pub decision_final : (m : List ℕ) (s : ℕ) (d : Decision) → Unrefused (decision_answer m s d)
decision_final m s clean n e = refusal_is_no_answer (sym e)
decision_final m s (dense k) n e = refusal_is_no_answer (sym e)
decision_final m s no_fit n e = refusal_is_no_answer (sym e)
decision_final m s (corrected k o) n e = refusal_is_no_answer (sym e)

writing_final : (t : Bool) → Unrefused (said_written (cond t Written NoSuchField))
writing_final true n e = refusal_is_no_answer (sym e)
writing_final false n e = refusal_is_no_answer (sym e)

antenna_final : (s : Bool) (p : ℕ) (t : Bool) (q : ℕ) (x : Option Antenna) → AntennaCase s p t q x → Unrefused (answered_antenna x)
antenna_final s p t q (Some Upper) h n e = refusal_is_no_answer (sym e)
antenna_final s p t q (Some Lower) h n e = refusal_is_no_answer (sym e)
antenna_final s p t q None h n e = refusal_is_no_answer (sym e)

-- one of two answers is no refusal
either_final : (t : Bool) (j k : ℕ) (us vs : List ℕ) → Unrefused (cond t (answer j us) (answer k vs))
either_final true j k us vs n e = refusal_is_no_answer (sym e)
either_final false j k us vs n e = refusal_is_no_answer (sym e)

added_final : (i b : Bool) → Unrefused (cond i (cond b renewed held) added)
added_final true true n e = refusal_is_no_answer (sym e)
added_final true false n e = refusal_is_no_answer (sym e)
added_final false b n e = refusal_is_no_answer (sym e)

is_final : (c : Call) → Unrefused (final c)
unfolding final
is_final (register_step r b) n e = refusal_is_no_answer (sym e)
is_final (register_back r) n e = refusal_is_no_answer (sym e)
is_final (uplink_overlay a) n e = refusal_is_no_answer (sym e)
is_final (field_parity f) n e = refusal_is_no_answer (sym e)
is_final (message_remainder m) n e = refusal_is_no_answer (sym e)
is_final (read_address m) n e = refusal_is_no_answer (sym e)
is_final (seal_reply m w) n e = refusal_is_no_answer (sym e)
is_final (seal_interrogation m a) n e = refusal_is_no_answer (sym e)
is_final (receive own m) n e = reception_final own (address_read (number m)) (format_number m) (reception_of own (address_read (number m)) (format_number m)) (case own (address_read (number m)) (format_number m)) n e
is_final (correct m c w l) n e = decision_final m (syndrome m w) (decision_of m c w l) n e
is_final (read_altitude m) n e = reading_final m n e
is_final (write_altitude m z s) n e = writing_final (has_altitude m) n e
is_final (taken_antenna own u p l q) n e = antenna_final _ p _ q (choice_of own u p l q) (antenna-case (is_taken (reception_outcome own u)) p (is_taken (reception_outcome own l)) q) n e
is_final (clear_table rs ps k) n e = refusal_is_no_answer (sym e)
is_final (add_or_renew rs ps k s) n e = added_final (is_in rs s.address) (stands rs s) n e
is_final (remove_record rs ps k a) n e = either_final (is_in rs a) 3 5 [] [] n e
is_final (find_record rs ps k a) n e = either_final (is_in rs a) 4 5 _ [] n e
is_final (receive_segment own m r s) n e = segment_final own (address_read (number m)) (format_number m) (reception_of own (address_read (number m)) (format_number m)) _ (case own (address_read (number m)) (format_number m)) n e
is_final (send_opening a d b) n e = refusal_is_no_answer (sym e)
is_final (send_round a d k s b) n e = refusal_is_no_answer (sym e)
is_final (send_exchange a d b) n e = refusal_is_no_answer (sym e)
is_final (divide_replies s w) n e = refusal_is_no_answer (sym e)

-- ---- the theorems

pub refused_by_lowest : RefusedByLowest
unfolding RefusedByLowest Applies Lowest
refused_by_lowest c n = (
  λ e. refused-lowest (final c) (is_final c) n 0 (handed c) (in_order_lem c) (is_chain c ∙ e),
  λ h. sym (is_chain c) ∙ lowest-refused (final c) (is_final c) n 0 (handed c) (in_order_lem c) h,
)

pub unrefused_where_none : UnrefusedWhereNone
unfolding UnrefusedWhereNone Applies
unrefused_where_none c = (
  λ u. unrefused-none (final c) (is_final c) (handed c) (λ n e. u n (sym (is_chain c) ∙ e)),
  λ h n e. none-unrefused (final c) (is_final c) (handed c) h n (is_chain c ∙ e),
)

same : (rs rs' : List Record) (ps ps' : List ℕ) (n n' : ℕ) → rs' ≡ rs → ps' ≡ ps → n' ≡ n → rollcall rs' ps' n' ≡ rollcall rs ps n
same rs rs' ps ps' n n' x y z = cc

pub refused_leaves : RefusedLeaves
unfolding RefusedLeaves outcome after lent reply_after interrogation_after remainders_after
refused_leaves (register_step r b) n e = refl
refused_leaves (register_back r) n e = refl
refused_leaves (uplink_overlay a) n e = refl
refused_leaves (field_parity f) n e = refl
refused_leaves (message_remainder m) n e = refl
refused_leaves (read_address m) n e = refl
refused_leaves (seal_reply m w) n e = ap bytes (left_of _ _ m (reply_seal m w) e)
refused_leaves (seal_interrogation m a) n e = ap bytes (left_of _ _ m (interrogation_seal m a) e)
refused_leaves (receive own m) n e = refl
refused_leaves (correct m c w l) n e = ap bytes (after-refused m c w l n e)
refused_leaves (read_altitude m) n e = refl
refused_leaves (write_altitude m z s) n e = ap bytes (sym (left-refused m z s n (sym e)))
refused_leaves (taken_antenna own u p l q) n e = refl
refused_leaves (clear_table rs ps k) n e = same rs _ ps ps k _ (clear_leaves rs ps k n e).0 refl (clear_leaves rs ps k n e).1
refused_leaves (add_or_renew rs ps k s) n e = let l = add_leaves rs ps k s n e in same rs _ ps _ k _ l.0 l.1.0 l.1.1
refused_leaves (remove_record rs ps k a) n e = let l = remove_leaves rs ps k a n e in same rs _ ps _ k _ l.0 l.1.0 l.1.1
refused_leaves (find_record rs ps k a) n e = refl
refused_leaves (receive_segment own m r s) n e = let l = segment-leaves own m r s n e in ap₂ upload l.0 l.1
refused_leaves (send_opening a d b) n e = ap bytes (opening-leaves a d b n e)
refused_leaves (send_round a d k s b) n e = ap bytes (round-leaves a d k s b n e)
refused_leaves (send_exchange a d b) n e = ap bytes (exchange-leaves a d b n e)
refused_leaves (divide_replies s w) n e = ap words (left_of _ _ w (remainders_of s (length w)) e)
