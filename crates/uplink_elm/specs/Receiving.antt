-- The receiver's call (document 02, Point 7): what it answers, and the receiver and the bytes of the places after it.
use Rattle.std.specs.Prelude.{ℕ, zero, suc, Bool, true, false, cond, ◌&&◌, List, [], ◌∷◌, ◌++◌, eqb, leb, Option, Some, None, Result, Ok, Err}
use Rattle.outcome.specs.Outcomes.{Outcome, said_by}
use Rattle.outcome.specs.Outcomes.Outcome.{refusal, answer}
use Rattle.outcome.specs.Refusals.{number_of}
use Rattle.outcome.specs.declared.Refusal.{Refusal}
use Rattle.outcome.specs.declared.Refusal.TheVariants.{NothingOpened, NumberAboveLast}
use Rattle.transponder.specs.Receptions.{answered, reception_outcome}
use Rattle.uplink_elm.specs.declared.Receiver.{Receiver}
use Rattle.uplink_elm.specs.declared.Progress.{Progress}
use Rattle.uplink_elm.specs.declared.Answer.{Answer}
use Rattle.uplink_elm.specs.Segments.{is_extended, reply_control, segment_number, segment, bit_of, is_held, with_number, all_below, stored}

-- ---- a receiver

-- 'It starts unopened and empty'
abbrev pub fresh_receiver : Receiver
fresh_receiver = record { opened = false; last = 0; held = 0 }

-- 'The message is whole when all numbers up to the last are held.'
unfoldable pub is_whole : Receiver → Bool
is_whole r = r.opened && all_below (is_held r.held) (suc r.last)

-- The bits of the numbers held are the acknowledgement.
abbrev pub progress_of : Receiver → Progress
progress_of r = record { acknowledgement = r.held; whole = is_whole r }

-- ---- what an answer says

abbrev pub one : Bool → ℕ
one true = 1
one false = 0

abbrev pub progress_values : Progress → List ℕ
progress_values p = p.acknowledgement ∷ one p.whole ∷ []

-- 'Unless refused it gives that answer, the acknowledgement and whether the message is whole.'
abbrev pub with_progress : Outcome → Progress → Outcome
with_progress (refusal n) p = refusal n
with_progress (answer n vs) p = answer n (vs ++ progress_values p)

-- The transponder's answer, with its number and its value, followed by the acknowledgement and 1 for a message that is whole; or the
-- refusal.
abbrev pub said : Result Answer Refusal → Outcome
said = said_by (λ a. with_progress (answered a.reception) a.progress)

-- ---- what a segment does

-- What an interrogation of format 24 does: it is refused, changes nothing, or stores its segment and leaves this receiver.
abbrev pub Effect : Type 0
Effect = Result (Option Receiver) Refusal

-- RC 0 'opens a message whose last segment number is NC (1 to 15), stores that segment, and discards any earlier one'.
abbrev pub opening_effect : ℕ → Effect
opening_effect n = cond (eqb n 0) (Err NothingOpened) (Ok (Some (record { opened = true; last = n; held = bit_of n })))

-- RC 1 and RC 2 store segment NC. 'Checks ..: 10, RC 1 or 2 with nothing opened, or RC 0 with NC 0; 11, RC 1 or 2 with NC above the
-- opened last; in that order'.
abbrev pub adding_effect : ℕ → Receiver → Effect
adding_effect n r =
    cond r.opened
    (cond (leb n r.last) (Ok (Some (record { opened = true; last = r.last; held = with_number r.held n }))) (Err NumberAboveLast))
    (Err NothingOpened)

-- By RC, NC and the receiver. 'RC 3 changes nothing.'
unfoldable pub effect_of : ℕ → ℕ → Receiver → Effect
effect_of zero n r = opening_effect n
effect_of (suc zero) n r = adding_effect n r
effect_of (suc (suc zero)) n r = adding_effect n r
effect_of (suc (suc (suc k))) n r = Ok None

-- Of an interrogation that is read as the own address.
unfoldable pub own_effect : List ℕ → Receiver → Effect
own_effect m r = cond (is_extended m) (effect_of (reply_control m) (segment_number m) r) (Ok None)

-- The transponder answers 'own', its number 1.
abbrev pub is_own : Outcome → Bool
is_own (refusal n) = false
is_own (answer n vs) = eqb n 1

-- 'an answer other than 'own', or another format, changes nothing'
unfoldable pub call_effect : ℕ → List ℕ → Receiver → Effect
call_effect own m r = cond (is_own (reception_outcome own m)) (own_effect m r) (Ok None)

-- ---- what an effect makes of the receiver, the places and the transponder's answer

abbrev pub receiver_of : Effect → Receiver → Receiver
receiver_of (Err e) r = r
receiver_of (Ok None) r = r
receiver_of (Ok (Some next)) r = next

abbrev pub segments_of : Effect → List ℕ → List ℕ → List ℕ
segments_of (Err e) m s = s
segments_of (Ok None) m s = s
segments_of (Ok (Some next)) m s = stored (segment_number m) (segment m) s

abbrev pub outcome_of : Effect → Outcome → Receiver → Outcome
outcome_of (Err e) o r = refusal (number_of e)
outcome_of (Ok None) o r = with_progress o (progress_of r)
outcome_of (Ok (Some next)) o r = with_progress o (progress_of next)

-- ---- the call

unfoldable pub receiving_outcome : ℕ → List ℕ → Receiver → Outcome
receiving_outcome own m r = outcome_of (call_effect own m r) (reception_outcome own m) r

unfoldable pub receiver_after : ℕ → List ℕ → Receiver → Receiver
receiver_after own m r = receiver_of (call_effect own m r) r

unfoldable pub segments_after : ℕ → List ℕ → Receiver → List ℕ → List ℕ
segments_after own m r s = segments_of (call_effect own m r) m s
