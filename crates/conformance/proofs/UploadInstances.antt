-- Worked instances of the statements on extended length messages, which meet their hypotheses: a message of two segments for 4840D6,
-- with an interrogation hit on the way; the receiver's answers to it; and calls that rows 10 and 11 refuse.
use mathlib.Core.Path.{◌≡◌, refl}
use mathlib.Core.Bool.{true}
use mathlib.Core.Logic.{inl}
use mathlib.Core.List.{List, [], ◌∷◌, ◌++◌}
use Prim.Native.Nat.{ℕ, zero, suc, ◌*◌, ◌/◌, ◌%◌, ◌^◌, ◌<◌, ◌≤◌}
use native.Mathlib.Nat.{not-suc-le-zero, le_of_suc-le-suc}
use native.Mathlib.Omega.{arith}
use lib.Dec.{lit<, lit≤}
use lib.ListN.{replicate}
use Rattle.outcome.specs.Outcomes.Outcome.{refusal, answer}
use Rattle.message.specs.Message.{number, field, format_number, first_bit, first_bit_agrees, is_message_length, is_word}
use Rattle.message.specs.Bits.{inverted}
use Rattle.division.specs.Polynomial.{polynomial, downwards, product}
use Rattle.division.specs.Division.{generator, generator_powers, reduce, divide, quotient, remainder, parity, overlay, address_read}
use Rattle.encoder.specs.Seals.{word_bytes, with_parity, interrogation_parity, interrogation_seal, seal_outcome, interrogation_after}
use Rattle.transponder.specs.Receptions.{reception_of, is_reserved, Permitted, reception_outcome}
use Rattle.uplink_elm.specs.declared.Receiver.{Receiver}
use Rattle.uplink_elm.specs.Segments.{is_extended, reply_control, segment_number, segment, bit_of, is_held, with_number, all_below, stored}
use Rattle.uplink_elm.specs.Receiving.{fresh_receiver, is_whole, effect_of, own_effect, call_effect, receiving_outcome, receiver_after, segments_after}
use Rattle.uplink_elm_meaning.specs.Running.{fresh, after_all, answers, machine_after_all, NoneAboveLast, PartsAreBits}
use Rattle.uplink_elm_meaning.specs.Machine.{start, does, step, machine_after}
use Rattle.uplink_elm_meaning.proofs.Laws.{parts_are_bits, none-above_last}
use Rattle.conformance.specs.Bursts.{Burst}
use Rattle.conformance.specs.Uploads.{Sent, Each, Some, received, SentIsReceived, BurstChangesNothing}
use Rattle.conformance.proofs.Instances.{are_bytes_lem}
use Rattle.conformance.proofs.Uploads.{sent_is_received, burst_changes_nothing}

-- ---- the messages

own : ℕ
own = 0x4840D6

-- the two segments
data_of : ℕ → List ℕ
data_of zero = 0x11 ∷ 0x22 ∷ 0x33 ∷ 0x44 ∷ 0x55 ∷ 0x66 ∷ 0x77 ∷ 0x88 ∷ 0x99 ∷ 0xAA ∷ []
data_of (suc k) = 0xF0 ∷ 0xE1 ∷ 0xD2 ∷ 0xC3 ∷ 0xB4 ∷ 0xA5 ∷ 0x96 ∷ 0x87 ∷ 0x78 ∷ 0x69 ∷ []

-- segment 1, the last, with RC 0; segment 0 with RC 1; neither is sealed yet
opening : List ℕ
opening = 0xC1 ∷ 0xF0 ∷ 0xE1 ∷ 0xD2 ∷ 0xC3 ∷ 0xB4 ∷ 0xA5 ∷ 0x96 ∷ 0x87 ∷ 0x78 ∷ 0x69 ∷ 0x00 ∷ 0x00 ∷ 0x00 ∷ []

other : List ℕ
other = 0xD0 ∷ 0x11 ∷ 0x22 ∷ 0x33 ∷ 0x44 ∷ 0x55 ∷ 0x66 ∷ 0x77 ∷ 0x88 ∷ 0x99 ∷ 0xAA ∷ 0x00 ∷ 0x00 ∷ 0x00 ∷ []

places : List ℕ
places = replicate 160 0x55

permitted : Permitted own
unfolding Permitted own
permitted = (lit≤ tt, (λ e. omega arith), λ e. omega arith)

-- ---- sent and received

opening_sent : Sent own 0 1 (data_of 1) (interrogation_after opening own)
unfolding own opening data_of seal_outcome is_message_length is_word first_bit_agrees first_bit is_extended reply_control segment_number segment
opening_sent = record {
  unsealed = opening;
  are_bytes = are_bytes_lem opening refl;
  not-refused = refl;
  sealed = refl;
  format = refl;
  control_is = refl;
  number_is = refl;
  segment_is = refl;
}

other_sent : Sent own 1 0 (data_of 0) (interrogation_after other own)
unfolding own other data_of seal_outcome is_message_length is_word first_bit_agrees first_bit is_extended reply_control segment_number segment
other_sent = record {
  unsealed = other;
  are_bytes = are_bytes_lem other refl;
  not-refused = refl;
  sealed = refl;
  format = refl;
  control_is = refl;
  number_is = refl;
  segment_is = refl;
}

-- segment 0 twice
sent : List (List ℕ)
sent = interrogation_after other own ∷ interrogation_after other own ∷ []

received_met : is_whole (after_all (received own (interrogation_after opening own ∷ sent)) (fresh places)).receiver ≡ true
unfolding SentIsReceived Each Some sent places
received_met =
    (sent_is_received own 1 data_of [] (interrogation_after opening own) sent places permitted refl (lit≤ tt) opening_sent
    ((0, (lit≤ tt, other_sent)), ((0, (lit≤ tt, other_sent)), tt)) only).0
  where
    only : (k : ℕ) → k < 1 → Some (Sent own 1 k (data_of k)) sent
    only zero l = inl other_sent
    only (suc k) l = absurd (not-suc-le-zero (le_of_suc-le-suc l))

-- the answers: own, with 4000 and not whole; own, with C000 and whole; and the sealed messages as they are sent
answers_met : answers (received own (interrogation_after opening own ∷ interrogation_after other own ∷ [])) (fresh places)
    ≡ answer 1 (0x4000 ∷ 0 ∷ []) ∷ answer 1 (0xC000 ∷ 1 ∷ []) ∷ []
unfolding own opening other places received answers polynomial downwards product generator generator_powers reduce divide quotient remainder parity overlay address_read number field format_number first_bit first_bit_agrees is_message_length is_word word_bytes with_parity interrogation_parity interrogation_seal seal_outcome interrogation_after reception_of is_reserved reception_outcome is_extended reply_control segment_number segment bit_of is_held with_number all_below stored is_whole effect_of own_effect call_effect receiving_outcome receiver_after segments_after
answers_met = refl

-- ---- rows 10 and 11: RC 1 with nothing opened; RC 0 with NC 0; NC 5 above the opened last, 1

opened : Receiver
opened = record { opened = true; last = 1; held = 0x4000 }

refused_met : (receiving_outcome own (interrogation_after other own) fresh_receiver ≡ refusal 10)
    × (receiving_outcome own (interrogation_after (0xC0 ∷ data_of 0 ++ (0x00 ∷ 0x00 ∷ 0x00 ∷ [])) own) opened ≡ refusal 10)
    × (receiving_outcome own (interrogation_after (0xD5 ∷ data_of 0 ++ (0x00 ∷ 0x00 ∷ 0x00 ∷ [])) own) opened ≡ refusal 11)
unfolding own data_of other opened polynomial downwards product generator generator_powers reduce divide quotient remainder parity overlay address_read number field format_number first_bit first_bit_agrees is_message_length is_word word_bytes with_parity interrogation_parity interrogation_seal seal_outcome interrogation_after reception_of is_reserved reception_outcome is_extended reply_control segment_number segment effect_of own_effect call_effect receiving_outcome
refused_met = (refl, refl, refl)

-- ---- a burst in window 8, on the segment's first bits: the receiver with a message opened stays as it was

burst : Burst (interrogation_after other own) 8 (0xC00001 * 2 ^ 80)
unfolding Burst own other polynomial downwards product generator generator_powers reduce divide remainder parity overlay number field first_bit first_bit_agrees is_message_length is_word word_bytes with_parity interrogation_parity interrogation_seal seal_outcome interrogation_after
burst = (lit≤ tt, 0xC00001, lit< tt, lit< tt, refl)

hit_met : (receiver_after own (inverted (interrogation_after other own) (0xC00001 * 2 ^ 80)) opened ≡ opened)
    × (segments_after own (inverted (interrogation_after other own) (0xC00001 * 2 ^ 80)) opened places ≡ places)
unfolding BurstChangesNothing other other_sent
hit_met =
    let all = burst_changes_nothing own other 8 (0xC00001 * 2 ^ 80) opened places (are_bytes_lem other refl) other_sent.not-refused burst in (all.0, all.1)

-- ---- the parts of a message

parts_met : number (segment opening) ≡ number opening / 2 ^ 24 % 2 ^ 80
unfolding PartsAreBits opening
parts_met = (parts_are_bits opening (are_bytes_lem opening refl) refl).4

-- ---- the machine: after the opening it holds its last number, which is not above the last

machine_met : ((machine_after_all (received own (interrogation_after opening own ∷ [])) start).opened ≡ true)
    × (1 ≤ (machine_after_all (received own (interrogation_after opening own ∷ [])) start).last)
unfolding NoneAboveLast own opening received polynomial downwards product generator generator_powers reduce divide quotient remainder parity overlay address_read number field format_number first_bit first_bit_agrees is_message_length is_word word_bytes with_parity interrogation_parity interrogation_seal seal_outcome interrogation_after reception_of is_reserved reception_outcome is_extended reply_control segment_number segment does step machine_after machine_after_all
machine_met = none-above_last (received own (interrogation_after opening own ∷ [])) 1 refl
