-- What a segment does, by its RC and its NC: how the definitions split by their tests.
use mathlib.Core.Path.{◌≡◌, refl, sym, ap, ◌∙◌}
use mathlib.Core.Bool.{Bool, true, false, cond}
use mathlib.Core.List.{List, []}
use Prim.Native.Nat.{ℕ, ◌+◌, ◌*◌, ◌/◌, ◌%◌, ◌^◌, ◌<◌}
use native.Mathlib.Omega.{arith}
use lib.Dec.{eqb}
use lib.ListN.{length, get_or, drop}
use borrow.Author.Tests.{eqb-true, eq-eqb}
use Rattle.std.specs.Prelude.{Some, None, Result, Ok, Err, IsErrAnd}
use Rattle.outcome.specs.Outcomes.{Outcome, Unrefused, admission, unless, done}
use Rattle.outcome.specs.Outcomes.Outcome.{refusal, answer}
use Rattle.outcome.specs.Refusals.{number_of}
use Rattle.outcome.specs.declared.Refusal.{Refusal}
use Rattle.outcome.proofs.Laws.{never, refused_at, refusal_is_no_answer, said_by_injective, admission_injective}
use Rattle.message.specs.Message.{number, format_number, first_bit_agrees}
use Rattle.message.proofs.Laws.{long_by_first_bit}
use Rattle.division.specs.Division.{address_read}
use Rattle.transponder.specs.Receptions.{reception_of, reception_outcome, answered}
use Rattle.transponder.specs.declared.Reception.{Reception}
use Rattle.transponder.specs.declared.Reception.TheVariants as R
use Rattle.transponder.proofs.Laws.{admitted}
use Rattle.uplink_elm.specs.declared.Receiver.{Receiver}
use Rattle.uplink_elm.specs.declared.Progress.{Progress}
use Rattle.uplink_elm.specs.declared.Answer.{Answer}
use Rattle.uplink_elm.specs.Segments.{is_extended, reply_control, segment_number}
use Rattle.uplink_elm.specs.Receiving.{Effect, one, progress_of, with_progress, said, own_effect, is_own, call_effect, receiver_of, segments_of, outcome_of, receiving_outcome, receiver_after, segments_after}

-- ---- the rows of a segment

-- a row that is refused has failed its test, and the refusal is the row's
pub row_refused : (r : Result Unit Refusal) (t : Bool) (e f : Refusal) → admission r ≡ unless t (number_of e) done → IsErrAnd r (λ d. d ≡ f)
    → (t ≡ false) × (f ≡ e)
row_refused (Ok u) t e f a h = absurd h
row_refused (Err d) true e f a h = absurd (refusal_is_no_answer a)
row_refused (Err d) false e f a h = (refl, sym h ∙ same_error (admission_injective (Err d) (Err e) a))
  where
    same_error : ◌≡◌ {A = Result Unit Refusal} (Err d) (Err e) → d ≡ e
    same_error q = cc

-- what the functions need that go by those rows
pub ruleset refusing = (row_refused)

-- ---- what an effect makes of a call, by the transponder's answer

-- an answer other than 'own' leaves the receiver and the bytes
pub other_leaves : (own : ℕ) (m : List ℕ) (r : Receiver) (s : List ℕ) → is_own (reception_outcome own m) ≡ false
    → (receiving_outcome own m r ≡ with_progress (reception_outcome own m) (progress_of r)) × (receiver_after own m r ≡ r) × (segments_after own m r s ≡ s)
unfolding receiving_outcome receiver_after segments_after call_effect
other_leaves own m r s e =
    let nothing : call_effect own m r ≡ Ok None = ap (λ (t : Bool). cond t (own_effect m r) (Ok None)) e in (
      ap (λ (k : Effect). outcome_of k (reception_outcome own m) r) nothing,
      ap (λ (k : Effect). receiver_of k r) nothing,
      ap (λ (k : Effect). segments_of k m s) nothing,
    )

-- so does a refusal
refused_effect : (k : Effect) (j : ℕ) (vs m : List ℕ) (r : Receiver) (s : List ℕ) (n : ℕ) → outcome_of k (answer j vs) r ≡ refusal n
    → (receiver_of k r ≡ r) × (segments_of k m s ≡ s)
refused_effect (Err i) j vs m r s n e = (refl, refl)
refused_effect (Ok None) j vs m r s n e = (refl, refl)
refused_effect (Ok (Some next)) j vs m r s n e = absurd (refusal_is_no_answer (sym e))

pub refused_leaves : (own : ℕ) (m : List ℕ) (r : Receiver) (s : List ℕ) (n : ℕ) → receiving_outcome own m r ≡ refusal n
    → (receiver_after own m r ≡ r) × (segments_after own m r s ≡ s)
unfolding receiving_outcome receiver_after segments_after call_effect
refused_leaves own m r s n e = by (reception_outcome own m) e
  where
    by : (o : Outcome) → outcome_of (cond (is_own o) (own_effect m r) (Ok None)) o r ≡ refusal n
        → (receiver_of (cond (is_own o) (own_effect m r) (Ok None)) r ≡ r) × (segments_of (cond (is_own o) (own_effect m r) (Ok None)) m s ≡ s)
    by (refusal j) q = (refl, refl)
    by (answer j vs) q = refused_effect (cond (is_own (answer j vs)) (own_effect m r) (Ok None)) j vs m r s n q

-- ---- what is known of a segment's message

-- an answer with the number of 'own' is 'own'
pub own_answer : (own : ℕ) (m : List ℕ) → is_own (reception_outcome own m) ≡ true → answered R.Own ≡ reception_outcome own m
own_answer own m e = by (reception_of own (address_read (number m)) (format_number m)) (admitted own m unrefused).outcome
  where
    unrefused : Unrefused (reception_outcome own m)
    unrefused n k = never e (ap is_own k)

    by : (a : Reception) → reception_outcome own m ≡ answered a → answered R.Own ≡ reception_outcome own m
    by R.Own p = sym p
    by R.AllCall p = absurd (never e (ap is_own p))
    by R.Broadcast p = absurd (never e (ap is_own p))
    by (R.NotOurs a) p = absurd (never e (ap is_own p))

-- a message of this format whose first bit agrees with its length is a long one, and so is an own interrogation
pub long_format : (m : List ℕ) → first_bit_agrees m ≡ true → is_extended m ≡ true → length m ≡ 14
unfolding is_extended
long_format m h e = let three : get_or m 0 0 / 2 ^ 6 ≡ 3 = eqb-true (get_or m 0 0 / 2 ^ 6) 3 e in long_by_first_bit m h (omega arith)

pub long_message : (own : ℕ) (m : List ℕ) → answered R.Own ≡ reception_outcome own m → is_extended m ≡ true → length m ≡ 14
long_message own m h e = long_format m (admitted own m (λ n k. refusal_is_no_answer (sym k ∙ sym h))).first_bit_agreeing e

-- format, RC and NC go by the first byte
pub parts_by_first : (m k : List ℕ) → get_or m 0 0 ≡ get_or k 0 0
    → (is_extended m ≡ is_extended k) × (reply_control m ≡ reply_control k) × (segment_number m ≡ segment_number k)
unfolding is_extended reply_control segment_number
parts_by_first m k e = (
  ap (λ (b : ℕ). eqb (b / 2 ^ 6) 3) e,
  ap (λ (b : ℕ). b / 2 ^ 4 % 2 ^ 2) e,
  ap (λ (b : ℕ). b % 2 ^ 4) e,
)

pub parts_of : (m : List ℕ) (c n : ℕ) → get_or m 0 0 ≡ 192 + 16 * c + n → c < 4 → n < 16
    → (is_extended m ≡ true) × (reply_control m ≡ c) × (segment_number m ≡ n)
unfolding is_extended reply_control segment_number
parts_of m c n e hc hn = (eq-eqb (get_or m 0 0 / 2 ^ 6) 3 (omega arith), omega arith, omega arith)

pub number-lt_16 : (m : List ℕ) → segment_number m < 16
unfolding segment_number
number-lt_16 m = omega arith

-- what stores is a long message of this format; the first part says nothing: it shows `grind` the call to take the law at
pub stores_long : (own : ℕ) (m : List ℕ) → is_own (reception_outcome own m) ≡ true → is_extended m ≡ true
    → (reception_outcome own m ≡ reception_outcome own m) × (length m ≡ 14)
stores_long own m i f = (refl, long_message own m (own_answer own m i) f)

-- what a call needs
pub ruleset advancing = (refused_at, stores_long)

-- ---- different answers of the code are different answers

one_back : (t : Bool) → eqb (one t) 1 ≡ t
one_back true = refl
one_back false = refl

-- what an answer was said for
abbrev progress_back : List ℕ → Progress
progress_back vs = record { acknowledgement = get_or vs 0 0; whole = eqb (get_or vs 1 0) 1 }

abbrev unsaid : Outcome → Answer
unsaid (refusal n) = record { reception = R.Own; progress = progress_back [] }
unsaid (answer n vs) =
    cond (eqb n 1) (record { reception = R.Own; progress = progress_back vs })
    (cond (eqb n 2) (record { reception = R.AllCall; progress = progress_back vs })
    (cond (eqb n 4) (record { reception = R.Broadcast; progress = progress_back vs })
    (record { reception = R.NotOurs (get_or vs 0 0); progress = progress_back (drop 1 vs) })))

put : Reception → ℕ → Bool → Answer
put a n t = record { reception = a; progress = record { acknowledgement = n; whole = t } }

unsaid-said : (a : Reception) (p : Progress) → unsaid (with_progress (answered a) p) ≡ record { reception = a; progress = p }
unfolding put
unsaid-said R.Own p = ap (put R.Own p.acknowledgement) (one_back p.whole)
unsaid-said R.AllCall p = ap (put R.AllCall p.acknowledgement) (one_back p.whole)
unsaid-said R.Broadcast p = ap (put R.Broadcast p.acknowledgement) (one_back p.whole)
unsaid-said (R.NotOurs n) p = ap (put (R.NotOurs n) p.acknowledgement) (one_back p.whole)

no_refusal : (a : Reception) (p : Progress) (n : ℕ) → refusal n ≡ with_progress (answered a) p → ⊥
no_refusal R.Own p n = refusal_is_no_answer
no_refusal R.AllCall p n = refusal_is_no_answer
no_refusal R.Broadcast p n = refusal_is_no_answer
no_refusal (R.NotOurs a) p n = refusal_is_no_answer

pub said_injective : (x y : Result Answer Refusal) → said x ≡ said y → x ≡ y
said_injective =
    said_by_injective (λ a. with_progress (answered a.reception) a.progress)
    (λ a b e. sym (unsaid-said a.reception a.progress) ∙ ap unsaid e ∙ unsaid-said b.reception b.progress)
    (λ a. no_refusal a.reception a.progress)
