-- A worked instance of each statement, which meets its hypotheses: none of them holds for want of a case. The messages are
-- those of document 01's bench (the reply 00008000EB2472, sealed for 123456, with bit 17 hit; the interrogation
-- 00000000000003, sealed for 000002, with its last bit hit), and of 112 bits a published reply and interrogation. That a
-- burst can make a broadcast and an all-call of an interrogation is shown too: more than acceptance as own is not excluded.
use mathlib.Core.Path.{◌≡◌, refl, sym, ap, ◌∙◌, subst}
use mathlib.Core.Bool.{true, and-eq-true_iff}
use mathlib.Core.Logic.{inl, inr}
use mathlib.Core.List.{List, [], ◌∷◌}
use Prim.Native.Nat.{ℕ, zero, suc, ◌-◌, ◌*◌, ◌/◌, ◌%◌, ◌^◌, ◌<◌, ◌≤◌}
use native.Mathlib.Nat.{mod-lt, zero-div, zero-mul, one-mul, mul-le-mul_right, lt_irrefl, not-suc-le-zero}
use native.Mathlib.Omega.{arith}
use lib.Bits.{and_high, and_zero_r, and_le_r}
use lib.Count.{ones, ones_in, ones-le}
use lib.Dec.{lit<, lit≤, ltb}
use lib.Pow.{are_bytes, pow_pos, pow_mono, shl-shr}
use borrow.Author.Tests.{ltb-true}
use Rattle.outcome.specs.Outcomes.{done}
use Rattle.outcome.specs.Outcomes.Outcome.{refusal}
use Rattle.outcome.specs.Refusals.{word_too_large, first_bit_contradicts}
use Rattle.outcome.proofs.Laws.{refusal_is_no_answer, same_answer, positive}
use Rattle.message.specs.Message.{number, Bytes, field, format_number, first_bit, first_bit_agrees, is_message_length, is_word}
use Rattle.message.specs.Bits.{place, number_bytes, inverted}
use Rattle.notices.proofs.Laws.{ones_shl}
use Rattle.division.specs.Polynomial.{polynomial, downwards, product}
use Rattle.division.specs.Division.{generator, generator_powers, reduce, divide, quotient, remainder, parity, overlay, address_read, ReadsAs, Carries}
use Rattle.encoder.specs.Seals.{word_bytes, with_parity, reply_parity, interrogation_parity, reply_seal, interrogation_seal, seal_outcome, reply_after, interrogation_after}
use Rattle.transponder.specs.Receptions.{reception_of, is_reserved, Permitted, reception_outcome, answered}
use Rattle.transponder.specs.declared.Reception.TheVariants.{Own, AllCall, Broadcast, NotOurs}
use Rattle.sensor.specs.Changes.{OnLow, Fit, marks_at, low_marks}
use Rattle.sensor.specs.Verdicts.{sole_mark, several_mark, clean_answer, dense_answer, no_fit_answer, corrected_answer, syndrome, decision_of, checked, sensor_outcome, sensor_after}
use Rattle.mode_s.specs.Packing.{parts, packed}
use Rattle.mode_s.specs.Packing.Source.{sensor}
use Rattle.antennas.specs.Antennas.{antenna_of, Part, said as said_antenna}
use Rattle.std.specs.Prelude.{Some, None, Ok}
use Rattle.antennas.specs.declared.Antenna.TheVariants.{Upper, Lower}
use Rattle.conformance.specs.Refusals.{row, Wrong, handed, outcome, Breaks, SomeBreaks, Applies}
use Rattle.conformance.specs.Refusals.Call.{seal_reply}
use Rattle.conformance.specs.Sealing.{Message, CarriesReply}
use Rattle.conformance.specs.Bursts.{Burst}
use Rattle.conformance.specs.Accepting.{SaysNotOurs, BurstNeverOwn}
use Rattle.conformance.specs.Correcting.{Judged, IsDense, LowestDense, NoneDense, LowestFit, OnlyChange, AnotherChange, Right, OnlyOneIsRight, OthersLeave, HitReply}
use Rattle.conformance.specs.Correcting.Right.{clean, dense, no_fit, sole, several}
use Rattle.conformance.specs.Antennas.{TakenIsAccepted, SaysUpper, SaysLower, returned, IsField, Apart, UpperPart, BurstNeverDisplaces}
use Rattle.conformance.specs.Packing.{number_of}
use Rattle.conformance.specs.Packing.FromC.{correct}
use Rattle.conformance.proofs.Refusals.{decision_final}
use Rattle.conformance.proofs.Sealing.{carries_reply}
use Rattle.conformance.proofs.Accepting.{says_not_ours, burst_never_own}
use Rattle.conformance.proofs.Antennas.{taken_is_accepted, says_upper, says_lower, upper_part, burst_never_displaces}
use Rattle.conformance.proofs.Right.{only_one_is_right}
use Rattle.conformance.proofs.Correcting.{others_leave, hit_reply}

-- ---- the messages

-- a reply that was not sealed yet, as sent, with bit 17 hit, and the mark of that bit
unsealed : List ℕ
unsealed = 0x00 ∷ 0x00 ∷ 0x80 ∷ 0x00 ∷ 0x00 ∷ 0x00 ∷ 0x00 ∷ []

sent : List ℕ
sent = 0x00 ∷ 0x00 ∷ 0x80 ∷ 0x00 ∷ 0xEB ∷ 0x24 ∷ 0x72 ∷ []

hit : List ℕ
hit = 0x00 ∷ 0x00 ∷ 0x00 ∷ 0x00 ∷ 0xEB ∷ 0x24 ∷ 0x72 ∷ []

marks : List ℕ
marks = 0x00 ∷ 0x00 ∷ 0x80 ∷ 0x00 ∷ 0x00 ∷ 0x00 ∷ 0x00 ∷ []

empty : List ℕ
empty = 0x00 ∷ 0x00 ∷ 0x00 ∷ 0x00 ∷ 0x00 ∷ 0x00 ∷ 0x00 ∷ []

-- the same of 112 bits
long_unsealed : List ℕ
long_unsealed = 0xA8 ∷ 0x00 ∷ 0x08 ∷ 0x9D ∷ 0x80 ∷ 0x94 ∷ 0xE3 ∷ 0x3A ∷ 0x60 ∷ 0x04 ∷ 0xE4 ∷ 0x00 ∷ 0x00 ∷ 0x00 ∷ []

long_sent : List ℕ
long_sent = 0xA8 ∷ 0x00 ∷ 0x08 ∷ 0x9D ∷ 0x80 ∷ 0x94 ∷ 0xE3 ∷ 0x3A ∷ 0x60 ∷ 0x04 ∷ 0xE4 ∷ 0xB8 ∷ 0xA5 ∷ 0x22 ∷ []

long_hit : List ℕ
long_hit = 0xA8 ∷ 0x00 ∷ 0x88 ∷ 0x9D ∷ 0x80 ∷ 0x94 ∷ 0xE3 ∷ 0x3A ∷ 0x60 ∷ 0x04 ∷ 0xE4 ∷ 0xB8 ∷ 0xA5 ∷ 0x22 ∷ []

long_marks : List ℕ
long_marks = 0x00 ∷ 0x00 ∷ 0x80 ∷ 0x00 ∷ 0x00 ∷ 0x00 ∷ 0x00 ∷ 0x00 ∷ 0x00 ∷ 0x00 ∷ 0x00 ∷ 0x00 ∷ 0x00 ∷ 0x00 ∷ []

-- every entry is a byte, by a test that the checker computes
pub are_bytes_lem : (l : List ℕ) → are_bytes l ≡ true → Bytes l
are_bytes_lem [] e i = lit< tt
are_bytes_lem (x ∷ l) e zero = ltb-true x 256 ((and-eq-true_iff (ltb x 256) (are_bytes l)).0 e).0
are_bytes_lem (x ∷ l) e (suc i) = are_bytes_lem l ((and-eq-true_iff (ltb x 256) (are_bytes l)).0 e).1 i

-- ---- refusals: rows 3 and 5 both apply, and the lower number is returned

both_apply : Applies word_too_large (seal_reply (0x80 ∷ 0x00 ∷ 0x00 ∷ 0x00 ∷ 0x00 ∷ 0x00 ∷ 0x00 ∷ []) 0x1000000)
    × Applies first_bit_contradicts (seal_reply (0x80 ∷ 0x00 ∷ 0x00 ∷ 0x00 ∷ 0x00 ∷ 0x00 ∷ 0x00 ∷ []) 0x1000000)
unfolding Applies SomeBreaks Breaks handed row Wrong first_bit
both_apply = (inr (inl (refl, lit< tt)), inr (inr (inl (refl, inr ((λ e. omega arith), λ e. omega arith)))))

lower-returned : outcome (seal_reply (0x80 ∷ 0x00 ∷ 0x00 ∷ 0x00 ∷ 0x00 ∷ 0x00 ∷ 0x00 ∷ []) 0x1000000) ≡ refusal word_too_large
unfolding outcome seal_outcome is_message_length is_word
lower-returned = refl

-- ---- sealing and reading

message : Message unsealed × Message long_sent
unfolding Message unsealed long_sent is_message_length
message = ((are_bytes_lem unsealed refl, refl), (are_bytes_lem long_sent refl, refl))

sealed : (seal_outcome unsealed 0x123456 ≡ done) × (seal_outcome long_unsealed 0x4953D4 ≡ done)
unfolding seal_outcome unsealed long_unsealed is_message_length is_word first_bit_agrees first_bit
sealed = (refl, refl)

sealed_as_sent : (reply_after unsealed 0x123456 ≡ sent) × (reply_after long_unsealed 0x4953D4 ≡ long_sent)
unfolding sent unsealed long_sent long_unsealed polynomial downwards generator generator_powers reduce divide remainder parity number field first_bit first_bit_agrees is_message_length is_word word_bytes with_parity reply_parity reply_seal seal_outcome reply_after
sealed_as_sent = (refl, refl)

sent_carries : Carries (number sent) 0x123456 × Carries (number long_sent) 0x4953D4
unfolding sent long_sent polynomial downwards generator generator_powers reduce divide remainder number
sent_carries = (refl, refl)

-- the published reply is the seal of its own field
long_is_sealed : long_sent ≡ reply_seal long_sent 0x4953D4
unfolding CarriesReply
long_is_sealed = carries_reply long_sent 0x4953D4 message.1 sent_carries.1

-- 00000000000003 is the interrogation 00000000 sealed for 000002, and read as it: x^24·3 = (0 + 2)·G + FFE812; and one of
-- 112 bits
interrogation : (interrogation_after empty 0x000002 ≡ 0x00 ∷ 0x00 ∷ 0x00 ∷ 0x00 ∷ 0x00 ∷ 0x00 ∷ 0x03 ∷ [])
    × (interrogation_after (0xA0 ∷ 0x00 ∷ 0x18 ∷ 0x38 ∷ 0xCA ∷ 0x3E ∷ 0x51 ∷ 0xF0 ∷ 0xA8 ∷ 0x00 ∷ 0x00 ∷ 0x00 ∷ 0x00 ∷ 0x00 ∷ []) 0x4840D6
    ≡ 0xA0 ∷ 0x00 ∷ 0x18 ∷ 0x38 ∷ 0xCA ∷ 0x3E ∷ 0x51 ∷ 0xF0 ∷ 0xA8 ∷ 0x00 ∷ 0x00 ∷ 0xD8 ∷ 0xBF ∷ 0xE3 ∷ [])
unfolding empty polynomial downwards product generator generator_powers reduce divide remainder parity overlay number field first_bit first_bit_agrees is_message_length is_word word_bytes with_parity interrogation_parity interrogation_seal seal_outcome interrogation_after
interrogation = (refl, refl)

interrogation_sealed : seal_outcome empty 0x000002 ≡ done
unfolding seal_outcome empty is_message_length is_word first_bit_agrees first_bit
interrogation_sealed = refl

reads_as : ReadsAs (number (0x00 ∷ 0x00 ∷ 0x00 ∷ 0x00 ∷ 0x00 ∷ 0x00 ∷ 0x03 ∷ [])) 0x000002
unfolding ReadsAs number product downwards generator generator_powers polynomial
reads_as = (0, 0xFFE812, lit< tt, refl)

-- ---- accepting: own of both lengths, all-call in format 11, not ours with FFFFFF in another format, and broadcast in format 21

answers_met : (reception_outcome 0x000002 (0x00 ∷ 0x00 ∷ 0x00 ∷ 0x00 ∷ 0x00 ∷ 0x00 ∷ 0x03 ∷ []) ≡ answered Own)
    × (reception_outcome 0x4840D6 (0xA0 ∷ 0x00 ∷ 0x18 ∷ 0x38 ∷ 0xCA ∷ 0x3E ∷ 0x51 ∷ 0xF0 ∷ 0xA8 ∷ 0x00 ∷ 0x00 ∷ 0xD8 ∷ 0xBF ∷ 0xE3 ∷ []) ≡ answered Own)
    × (reception_outcome 0x000002 (interrogation_after (0x58 ∷ 0x00 ∷ 0x00 ∷ 0x00 ∷ 0x00 ∷ 0x00 ∷ 0x00 ∷ []) 0xFFFFFF) ≡ answered AllCall)
    × (reception_outcome 0x123456 (0x00 ∷ 0x00 ∷ 0x00 ∷ 0x00 ∷ 0xAA ∷ 0xAC ∷ 0x07 ∷ []) ≡ answered (NotOurs 0xFFFFFF))
    × (reception_outcome 0x000002 (interrogation_after long_unsealed 0xFFFFFF) ≡ answered Broadcast)
unfolding long_unsealed polynomial downwards product generator generator_powers reduce divide quotient remainder parity overlay address_read number field format_number first_bit first_bit_agrees is_message_length is_word word_bytes with_parity interrogation_parity interrogation_seal seal_outcome interrogation_after reception_of is_reserved reception_outcome
answers_met = (refl, refl, refl, refl, refl)

-- so the message is read as FFFFFF, and its format is none of 11, 20 and 21
not_ours_met : ReadsAs (number (0x00 ∷ 0x00 ∷ 0x00 ∷ 0x00 ∷ 0xAA ∷ 0xAC ∷ 0x07 ∷ [])) 0xFFFFFF
unfolding SaysNotOurs
not_ours_met =
    ((says_not_ours 0x123456 (0x00 ∷ 0x00 ∷ 0x00 ∷ 0x00 ∷ 0xAA ∷ 0xAC ∷ 0x07 ∷ []) 0xFFFFFF
    (λ n e. refusal_is_no_answer (sym e ∙ answers_met.3))).0 answers_met.3).1

-- ---- bursts: the last bit of the interrogation, in the last window

burst : Burst (interrogation_after empty 0x000002) 32 1
unfolding Burst empty polynomial downwards product generator generator_powers reduce divide remainder parity overlay number field first_bit first_bit_agrees is_message_length is_word word_bytes with_parity interrogation_parity interrogation_seal seal_outcome interrogation_after
burst = (lit≤ tt, 1, lit< tt, lit< tt, refl)

empty-bytes : Bytes empty
unfolding empty
empty-bytes = are_bytes_lem empty refl

burst_met : reception_outcome 0x000002 (inverted (interrogation_after empty 0x000002) 1) ≡ answered Own → ⊥
unfolding BurstNeverOwn
burst_met = burst_never_own empty 0x000002 32 1 empty-bytes interrogation_sealed burst

-- ---- what a burst can do: an interrogation for 4840D6 in format 20, hit in the last window, becomes a broadcast; one for
-- 510AF9 in format 4, hit in window 0, where its format is, becomes an all-call

long_call : List ℕ
long_call = 0xA0 ∷ 0x00 ∷ 0x18 ∷ 0x38 ∷ 0xCA ∷ 0x3E ∷ 0x51 ∷ 0xF0 ∷ 0xA8 ∷ 0x00 ∷ 0x00 ∷ 0x00 ∷ 0x00 ∷ 0x00 ∷ []

short_call : List ℕ
short_call = 0x20 ∷ 0x00 ∷ 0x00 ∷ 0x00 ∷ 0x00 ∷ 0x00 ∷ 0x00 ∷ []

burst_to_broadcast : Bytes long_call × (seal_outcome long_call 0x4840D6 ≡ done) × Burst (interrogation_after long_call 0x4840D6) 88 0xDAD1C3
    × (reception_outcome 0x4840D6 (inverted (interrogation_after long_call 0x4840D6) 0xDAD1C3) ≡ answered Broadcast)
unfolding long_call Burst polynomial downwards product generator generator_powers reduce divide quotient remainder parity overlay address_read number number_bytes inverted field format_number first_bit first_bit_agrees is_message_length is_word word_bytes with_parity interrogation_parity interrogation_seal seal_outcome interrogation_after reception_of is_reserved reception_outcome
burst_to_broadcast = (are_bytes_lem long_call refl, refl, (lit≤ tt, 0xDAD1C3, lit< tt, lit< tt, refl), refl)

burst_to_all-call : Bytes short_call × (seal_outcome short_call 0x510AF9 ≡ done) × Burst (interrogation_after short_call 0x510AF9) 0 (0x785631 * 2 ^ 32)
    × (reception_outcome 0x510AF9 (inverted (interrogation_after short_call 0x510AF9) (0x785631 * 2 ^ 32)) ≡ answered AllCall)
unfolding short_call Burst polynomial downwards product generator generator_powers reduce divide quotient remainder parity overlay address_read number number_bytes inverted field format_number first_bit first_bit_agrees is_message_length is_word word_bytes with_parity interrogation_parity interrogation_seal seal_outcome interrogation_after reception_of is_reserved reception_outcome
burst_to_all-call = (are_bytes_lem short_call refl, refl, (lit≤ tt, 0x785631, lit< tt, lit< tt, refl), refl)

-- ---- two antennas: own and all-call at levels below, equal and above, so that own is not preferred; buffers of which the
-- transponder would refuse one by its length and one by its first bit; and both refusals

own_call : List ℕ
own_call = 0x00 ∷ 0x00 ∷ 0x00 ∷ 0x00 ∷ 0x00 ∷ 0x00 ∷ 0x03 ∷ []

all-call : List ℕ
all-call = interrogation_after (0x58 ∷ 0x00 ∷ 0x00 ∷ 0x00 ∷ 0x00 ∷ 0x00 ∷ 0x00 ∷ []) 0xFFFFFF

antennas_met : (antenna_of 0x000002 own_call 5 all-call 6 ≡ Ok (Some Lower)) × (antenna_of 0x000002 own_call 6 all-call 6 ≡ Ok (Some Upper))
    × (antenna_of 0x000002 all-call 6 own_call 5 ≡ Ok (Some Upper)) × (antenna_of 0x000002 [] 255 (0x80 ∷ 0x00 ∷ 0x00 ∷ 0x00 ∷ 0x00 ∷ 0x00 ∷ 0x03 ∷ []) 255 ≡ Ok None)
    × (said_antenna (antenna_of 0x1000000 own_call 5 all-call 6) ≡ refusal 3) × (said_antenna (antenna_of 0xFFFFFF own_call 5 all-call 6) ≡ refusal 6)
unfolding own_call all-call polynomial downwards product generator generator_powers reduce divide quotient remainder parity overlay address_read number field format_number first_bit first_bit_agrees is_message_length is_word word_bytes with_parity interrogation_parity interrogation_seal seal_outcome interrogation_after reception_of is_reserved reception_outcome antenna_of
antennas_met = (refl, refl, refl, refl, refl, refl)

-- two buffers in two places: the part is the field of the upper one, in its place; and from the part the answer follows
part_met : IsField (returned 0x000002 ((0, 0), own_call) 6 ((1, 0), all-call) 6) ((0, 0), own_call)
unfolding UpperPart
part_met = (upper_part 0x000002 ((0, 0), own_call) 6 ((1, 0), all-call) 6).0 antennas_met.1

answer_met : antenna_of 0x000002 own_call 6 all-call 6 ≡ Ok (Some Upper)
unfolding UpperPart Apart
answer_met = (upper_part 0x000002 ((0, 0), own_call) 6 ((1, 0), all-call) 6).1 elsewhere part_met
  where
    elsewhere : ◌≡◌ {A = Part} ((0, 0), field own_call) ((1, 0), field all-call) → ⊥
    elsewhere e = let z : ◌≡◌ {A = ℕ} 0 1 = ap (λ (x : Part). x.0.0) e in omega arith

-- the interrogation whose last bit was hit does not displace an undamaged one, at any levels
own_permitted : Permitted 0x000002 × Permitted 0x4840D6 × Permitted 0x510AF9
unfolding Permitted
own_permitted = (
  (lit≤ tt, (λ e. omega arith), λ e. omega arith),
  (lit≤ tt, (λ e. omega arith), λ e. omega arith),
  (lit≤ tt, (λ e. omega arith), λ e. omega arith),
)

hit_not_ours : reception_outcome 0x000002 (inverted (interrogation_after empty 0x000002) 1) ≡ answered (NotOurs 0x000003)
unfolding empty polynomial downwards product generator generator_powers reduce divide quotient remainder parity overlay address_read number number_bytes inverted field format_number first_bit first_bit_agrees is_message_length is_word word_bytes with_parity interrogation_parity interrogation_seal seal_outcome interrogation_after reception_of is_reserved reception_outcome
hit_not_ours = refl

not_displaced : (p q : ℕ)
    → (antenna_of 0x000002 (inverted (interrogation_after empty 0x000002) 1) p (interrogation_after empty 0x000002) q ≡ Ok (Some Lower))
    × (antenna_of 0x000002 (interrogation_after empty 0x000002) p (inverted (interrogation_after empty 0x000002) 1) q ≡ Ok (Some Upper))
unfolding BurstNeverDisplaces
not_displaced p q =
    burst_never_displaces 0x000002 empty empty 32 1 p q own_permitted.0 empty-bytes empty-bytes interrogation_sealed interrogation_sealed burst
    (λ e. omega (arith, same_answer (sym hit_not_ours ∙ e))) (λ e. omega (arith, same_answer (sym hit_not_ours ∙ e)))

-- the exception: the bursts above made a broadcast and an all-call, which at a higher level displace the undamaged one
displaced : (antenna_of 0x4840D6 (inverted (interrogation_after long_call 0x4840D6) 0xDAD1C3) 9 (interrogation_after long_call 0x4840D6) 3 ≡ Ok (Some Upper))
    × (antenna_of 0x510AF9 (interrogation_after short_call 0x510AF9) 3 (inverted (interrogation_after short_call 0x510AF9) (0x785631 * 2 ^ 32)) 9 ≡ Ok (Some Lower))
unfolding SaysUpper SaysLower TakenIsAccepted
displaced = (
  (says_upper 0x4840D6 _ 9 _ 3).1 (own_permitted.1, (taken_is_accepted 0x4840D6 _ own_permitted.1).1 (inr (inr burst_to_broadcast.3)), λ t. lit≤ tt),
  (says_lower 0x510AF9 _ 3 _ 9).1 (own_permitted.2, (taken_is_accepted 0x510AF9 _ own_permitted.2).1 (inr (inl burst_to_all-call.3)), λ t. lit< tt),
)

-- ---- the sensor: the calls, none of which a row refuses

two_changes : List ℕ
two_changes = 0x00 ∷ 0x00 ∷ 0x00 ∷ 0x01 ∷ 0x00 ∷ 0x00 ∷ 0x00 ∷ []

two_marks : List ℕ
two_marks = 0x00 ∷ 0x00 ∷ 0x00 ∷ 0x01 ∷ 0xFF ∷ 0xF4 ∷ 0x09 ∷ []

calls : Judged sent empty 0x123456 24 × Judged hit marks 0x123456 0 × Judged hit empty 0x123456 24 × Judged hit marks 0x123456 24
    × Judged two_changes two_marks 0x000000 24 × Judged long_hit long_marks 0x4953D4 24
unfolding Judged sensor_outcome checked is_message_length is_word sent hit marks empty two_changes two_marks long_hit long_marks
calls = (
  (are_bytes_lem sent refl, are_bytes_lem empty refl, decision_final sent (syndrome sent 0x123456) (decision_of sent empty 0x123456 24)),
  (are_bytes_lem hit refl, are_bytes_lem marks refl, decision_final hit (syndrome hit 0x123456) (decision_of hit marks 0x123456 0)),
  (are_bytes_lem hit refl, are_bytes_lem empty refl, decision_final hit (syndrome hit 0x123456) (decision_of hit empty 0x123456 24)),
  (are_bytes_lem hit refl, are_bytes_lem marks refl, decision_final hit (syndrome hit 0x123456) (decision_of hit marks 0x123456 24)),
  (are_bytes_lem two_changes refl, are_bytes_lem two_marks refl, decision_final two_changes (syndrome two_changes 0x000000) (decision_of two_changes two_marks 0x000000 24)),
  (are_bytes_lem long_hit refl, are_bytes_lem long_marks refl, decision_final long_hit (syndrome long_hit 0x4953D4) (decision_of long_hit long_marks 0x4953D4 24)),
)

-- what is due in them: none but the first carries the word
others_carry_not : (Carries (number hit) 0x123456 → ⊥) × (Carries (number two_changes) 0x000000 → ⊥) × (Carries (number long_hit) 0x4953D4 → ⊥)
unfolding hit two_changes long_hit number polynomial downwards generator generator_powers reduce divide remainder
others_carry_not = ((λ e. omega arith), (λ e. omega arith), λ e. omega arith)

-- with a limit of 24 no window is dense
pub none_dense : (c : List ℕ) → NoneDense c 24
unfolding NoneDense IsDense low_marks marks_at
none_dense c v d = omega (arith, ones-le 24 (number c / 2 ^ place c v % 2 ^ 24) (mod-lt (number c / 2 ^ place c v) (pow_pos 24)), d.1)

-- no change where no mark is low
no_change : (m : List ℕ) (w v d : ℕ) → Fit m empty w v d → ⊥
unfolding Fit OnLow empty number
no_change m w v d f =
    let p : ℕ = f.0.1 in
    let none : d ≡ 0 = sym f.1 ∙ and_zero_r d in
    let zero_pattern : p ≡ 0 = sym (shl-shr p (place m v)) ∙ ap (λ (x : ℕ). x / 2 ^ place m v) (sym f.0.4 ∙ none) ∙ zero-div (2 ^ place m v) in
    omega arith

-- the bit that was hit, in window 0
one_change : Fit hit marks 0x123456 0 (2 ^ 39) × Fit long_hit long_marks 0x4953D4 0 (2 ^ 95)
unfolding Fit OnLow hit marks long_hit long_marks number polynomial downwards generator generator_powers reduce divide remainder inverted number_bytes first_bit first_bit_agrees
one_change = (((lit≤ tt, 128, lit< tt, lit< tt, refl), refl, refl, refl), ((lit≤ tt, 128, lit< tt, lit< tt, refl), refl, refl, refl))

-- where one bit alone is marked, no other change is possible
pub change_pos : (m c : List ℕ) (w v d : ℕ) → Fit m c w v d → 0 < d
unfolding Fit
change_pos m c w v d f = positive d (λ z. lt_irrefl 0 (subst (λ (p : ℕ). 0 < p) (none z) f.0.2))
  where
    none : d ≡ 0 → f.0.1 ≡ 0
    none z = sym (shl-shr f.0.1 (place m v)) ∙ ap (λ (x : ℕ). x / 2 ^ place m v) (sym f.0.4 ∙ z) ∙ zero-div (2 ^ place m v)

one_bit : (k d t : ℕ) → d ≡ t % 2 * 2 ^ k → 0 < d → d ≡ 2 ^ k
one_bit k d t e h = by (t % 2) (mod-lt t (lit< tt)) e
  where
    by : (b : ℕ) → b < 2 → d ≡ b * 2 ^ k → d ≡ 2 ^ k
    by zero l q = absurd (lt_irrefl 0 (subst (λ (n : ℕ). 0 < n) (q ∙ zero-mul (2 ^ k)) h))
    by (suc zero) l q = q ∙ one-mul (2 ^ k)
    by (suc (suc b)) l q = absurd (omega arith)

only_change : OnlyChange hit marks 0x123456 (2 ^ 39) × OnlyChange long_hit long_marks 0x4953D4 (2 ^ 95)
unfolding OnlyChange Fit OnLow marks long_marks number
only_change = (
  (λ u e f. one_bit 39 e (e / 2 ^ 39) (sym f.1 ∙ and_high e 1 39) (change_pos hit marks 0x123456 u e f)),
  (λ u e f. one_bit 95 e (e / 2 ^ 95) (sym f.1 ∙ and_high e 1 95) (change_pos long_hit long_marks 0x4953D4 u e f)),
)

-- bit 32, in window 8, and FFF409 in the last window; above window 8 no bit is marked
lower_change : Fit two_changes two_marks 0x000000 8 (2 ^ 24)
unfolding Fit OnLow two_changes two_marks number polynomial downwards generator generator_powers reduce divide remainder inverted number_bytes first_bit first_bit_agrees
lower_change = ((lit≤ tt, 1, lit< tt, lit< tt, refl), refl, refl, refl)

another_change : Fit two_changes two_marks 0x000000 32 0xFFF409
unfolding Fit OnLow two_changes two_marks number polynomial downwards generator generator_powers reduce divide remainder inverted number_bytes first_bit first_bit_agrees
another_change = ((lit≤ tt, 0xFFF409, lit< tt, lit< tt, refl), refl, refl, refl)

no_lower_change : (u e : ℕ) → u < 8 → Fit two_changes two_marks 0x000000 u e → ⊥
unfolding Fit OnLow two_changes two_marks number
no_lower_change u e l f =
    let small : e ≤ 0x1FFF409 = subst (λ (n : ℕ). n ≤ 0x1FFF409) f.1 (and_le_r e 0x1FFF409) in
    let large : 2 ^ 25 ≤ 2 ^ (32 - u) = pow_mono {i = 25} {j = 32 - u} (omega arith) in
    let pattern : 1 * 2 ^ (32 - u) ≤ f.0.1 * 2 ^ (32 - u) = mul-le-mul_right (2 ^ (32 - u)) f.0.2 in
    omega (arith, f.0.4, one-mul (2 ^ (32 - u)))

-- ---- each case of `Right`, of such a call

clean_met : Right sent empty 0x123456 24 clean_answer sent
clean_met = clean sent_carries.0 refl refl

dense_met : Right hit marks 0x123456 0 (dense_answer 0) hit
unfolding LowestDense IsDense low_marks marks_at ones ones_in marks number
dense_met = dense others_carry_not.0 0 ((lit≤ tt, lit< tt), λ u l. absurd (not-suc-le-zero l)) refl refl

no_fit_met : Right hit empty 0x123456 24 no_fit_answer hit
no_fit_met = no_fit others_carry_not.0 (none_dense empty) (no_change hit 0x123456) refl refl

sole_met : Right hit marks 0x123456 24 (corrected_answer 0 (ones (2 ^ 39)) sole_mark) (inverted hit (2 ^ 39))
unfolding LowestFit
sole_met =
    sole others_carry_not.0 (none_dense marks) 0 (2 ^ 39) (one_change.0, λ u e l. absurd (not-suc-le-zero l)) only_change.0 refl refl

several_met : Right two_changes two_marks 0x000000 24 (corrected_answer 8 (ones (2 ^ 24)) several_mark) (inverted two_changes (2 ^ 24))
unfolding LowestFit AnotherChange
several_met =
    several others_carry_not.1 (none_dense two_marks) 8 (2 ^ 24) (lower_change, no_lower_change)
    (32, 0xFFF409, another_change, λ e. omega arith) refl refl

long_sole_met : Right long_hit long_marks 0x4953D4 24 (corrected_answer 0 (ones (2 ^ 95)) sole_mark) (inverted long_hit (2 ^ 95))
unfolding LowestFit
long_sole_met =
    sole others_carry_not.2 (none_dense long_marks) 0 (2 ^ 95) (one_change.1, λ u e l. absurd (not-suc-le-zero l)) only_change.1 refl refl

-- ---- and so what the theorems give of them

-- the reply of 112 bits is corrected, and comes back as sent
long_corrected : (sensor_outcome long_hit long_marks 0x4953D4 24 ≡ corrected_answer 0 (ones (2 ^ 95)) sole_mark)
    × (sensor_after long_hit long_marks 0x4953D4 24 ≡ long_sent)
unfolding OnlyOneIsRight inverted number_bytes number long_hit long_sent
long_corrected =
    let only = only_one_is_right long_hit long_marks 0x4953D4 24 calls.5 _ _ long_sole_met in
    (sym only.0, sym only.1)

-- a dense call leaves every byte
dense_leaves : sensor_after hit marks 0x123456 0 ≡ hit
unfolding OthersLeave OnlyOneIsRight Judged
dense_leaves =
    others_leave hit marks 0x123456 0 calls.1.0 calls.1.1
    (λ v n k e. let differ = same_answer ((only_one_is_right hit marks 0x123456 0 calls.1 (dense_answer 0) hit dense_met).0 ∙ e) in omega arith)

-- the burst of the bench: bit 17, in window 0
sent_burst : Burst sent 0 (2 ^ 39)
unfolding Burst sent
sent_burst = (lit≤ tt, 128, lit< tt, lit< tt, refl)

reply_burst : Burst (reply_after unsealed 0x123456) 0 (2 ^ 39)
reply_burst = subst (λ (m : List ℕ). Burst m 0 (2 ^ 39)) (sym sealed_as_sent.0) sent_burst

reply_marks : OnLow marks (2 ^ 39)
unfolding OnLow marks number
reply_marks = refl

sent_hit : inverted sent (2 ^ 39) ≡ hit
unfolding inverted number_bytes number sent hit
sent_hit = refl

as_hit : inverted (reply_after unsealed 0x123456) (2 ^ 39) ≡ hit
as_hit = ap (λ (m : List ℕ). inverted m (2 ^ 39)) sealed_as_sent.0 ∙ sent_hit

-- never 'no fit', never 'clean', and as sent when sole
reply_met : (sensor_outcome (inverted (reply_after unsealed 0x123456) (2 ^ 39)) marks 0x123456 24 ≡ no_fit_answer → ⊥)
    × (sensor_outcome (inverted (reply_after unsealed 0x123456) (2 ^ 39)) marks 0x123456 24 ≡ clean_answer → ⊥)
    × ((u n : ℕ) → sensor_outcome (inverted (reply_after unsealed 0x123456) (2 ^ 39)) marks 0x123456 24 ≡ corrected_answer u n sole_mark
    → sensor_after (inverted (reply_after unsealed 0x123456) (2 ^ 39)) marks 0x123456 24 ≡ reply_after unsealed 0x123456)
unfolding HitReply Message
reply_met =
    hit_reply unsealed marks 0x123456 24 0 (2 ^ 39) message.0.0 sealed.0 reply_burst reply_marks
    (subst (λ (m : List ℕ). Judged m marks 0x123456 24) (sym as_hit) calls.3)

-- ---- the numbers that these calls give in C (proofs/PackingInstances.antt has those of the other answers)

one_of : (k : ℕ) → ones (2 ^ k) ≡ 1
unfolding ones ones_in
one_of k = ap ones (sym (one-mul (2 ^ k))) ∙ ones_shl 1 k

numbers_met : (number_of (correct sent empty 0x123456 24) ≡ 0x0000000000000007)
    × (number_of (correct hit marks 0x123456 0) ≡ 0x0000000000000008)
    × (number_of (correct hit empty 0x123456 24) ≡ 0x0000000000000009)
    × (number_of (correct hit marks 0x123456 24) ≡ 0x000000010001000A)
    × (number_of (correct two_changes two_marks 0x000000 24) ≡ 0x000000010802000A)
unfolding OnlyOneIsRight packed parts
numbers_met = (
  ap (packed sensor) (sym (only_one_is_right sent empty 0x123456 24 calls.0 _ _ clean_met).0),
  ap (packed sensor) (sym (only_one_is_right hit marks 0x123456 0 calls.1 _ _ dense_met).0),
  ap (packed sensor) (sym (only_one_is_right hit empty 0x123456 24 calls.2 _ _ no_fit_met).0),
  ap (packed sensor) (sym (only_one_is_right hit marks 0x123456 24 calls.3 _ _ sole_met).0)
      ∙ ap (λ (n : ℕ). packed sensor (corrected_answer 0 n sole_mark)) (one_of 39),
  ap (packed sensor) (sym (only_one_is_right two_changes two_marks 0x000000 24 calls.4 _ _ several_met).0)
      ∙ ap (λ (n : ℕ). packed sensor (corrected_answer 8 n several_mark)) (one_of 24),
)
