-- Worked instances: the numbers of some rounds, what the opening writes for 4840D6 (the interrogation that elm's input has), a setting
-- that is allowed, and the bound of rounds in it.
use mathlib.Core.Path.{◌≡◌, refl}
use mathlib.Core.Bool.{true}
use mathlib.Core.List.{List, [], ◌∷◌}
use Prim.Native.Nat.{ℕ, ◌≤◌}
use native.Mathlib.Omega.{arith}
use lib.Dec.{lit<, lit≤}
use lib.ListN.{replicate, length-replicate}
use Rattle.message.specs.Message.{number, field, is_word}
use Rattle.division.specs.Polynomial.{polynomial, downwards, product}
use Rattle.division.specs.Division.{generator, generator_powers, reduce, divide, quotient, remainder, parity, overlay}
use Rattle.encoder.specs.Seals.{word_bytes, with_parity, interrogation_parity, interrogation_seal}
use Rattle.transponder.specs.Receptions.{Permitted}
use Rattle.uplink_elm.specs.Segments.{is_held, segment_at}
use Rattle.uplink_elm_sending.specs.Sending.{unsealed, transmission, transmissions, segment_count, last_numbers, failing, unacknowledged, taken, round_numbers, is_segmented, is_room, last_outcome, last_after, opening_after}
use Rattle.uplink_elm_rounds.specs.Game.{Setting, Allowed, destroyed, UpTo}
use Rattle.uplink_elm_rounds.specs.Statements.{after_rounds, HasMessage, WholeInTime, OneLessIsEnough}
use Rattle.uplink_elm_rounds.proofs.Theorems.{whole_in_time, one_less_is_enough}

-- ---- the numbers of a round: of five segments none, 0 and 4, all, and only some past the last are acknowledged

numbers : (round_numbers 0x0000 5 3 ≡ 0 ∷ 1 ∷ 2 ∷ [])
    × (round_numbers 0x0000 5 7 ≡ 0 ∷ 1 ∷ 2 ∷ 3 ∷ 4 ∷ 0 ∷ 1 ∷ [])
    × (round_numbers 0x8800 5 7 ≡ 1 ∷ 2 ∷ 3 ∷ 1 ∷ 2 ∷ 3 ∷ 1 ∷ [])
    × (round_numbers 0xF800 5 7 ≡ [])
    × (round_numbers 0x07FF 5 2 ≡ 0 ∷ 1 ∷ [])
unfolding round_numbers unacknowledged failing taken is_held
numbers = (refl, refl, refl, refl, refl)

-- ---- two segments for 4840D6

upload : List ℕ
upload =
    0x11 ∷ 0x22 ∷ 0x33 ∷ 0x44 ∷ 0x55 ∷ 0x66 ∷ 0x77 ∷ 0x88 ∷ 0x99 ∷ 0xAA
    ∷ 0xF0 ∷ 0xE1 ∷ 0xD2 ∷ 0xC3 ∷ 0xB4 ∷ 0xA5 ∷ 0x96 ∷ 0x87 ∷ 0x78 ∷ 0x69 ∷ []

opens : opening_after 0x4840D6 upload (replicate 14 0x55)
    ≡ 0xC1 ∷ 0xF0 ∷ 0xE1 ∷ 0xD2 ∷ 0xC3 ∷ 0xB4 ∷ 0xA5 ∷ 0x96 ∷ 0x87 ∷ 0x78 ∷ 0x69 ∷ 0xD3 ∷ 0x13 ∷ 0x89 ∷ []
unfolding upload opening_after last_after last_outcome is_word is_segmented is_room last_numbers segment_count transmissions transmission unsealed segment_at interrogation_seal interrogation_parity with_parity word_bytes field number parity overlay product polynomial downwards generator generator_powers reduce divide quotient remainder
opens = refl

setting : ℕ → Setting
setting s = record { own = 0x4840D6; segments = upload; s = s; buffer = λ n. replicate n 0x55 }

allowed : (s : ℕ) → 1 ≤ s → s ≤ 16 → Allowed (setting s)
unfolding setting upload segment_count Permitted
allowed s lo hi = record {
  permitted = (lit≤ tt, (λ e. omega arith), λ e. omega arith);
  whole_segments = refl;
  two-or_more = lit≤ tt;
  sixteen_at_most = lit≤ tt;
  one-or_more = lo;
  round_of_sixteen = hi;
  lent = λ n. length-replicate n 0x55;
}

-- rounds of two of which the first transmission is destroyed: whole after two
two_rounds : HasMessage (setting 2) (after_rounds (setting 2) [] (replicate 160 0x00) ((true ∷ []) ∷ (true ∷ []) ∷ []))
unfolding WholeInTime UpTo destroyed setting upload segment_count
two_rounds = whole_in_time (setting 2) 1 (allowed 2 (lit≤ tt) (lit≤ tt)) (lit< tt) [] (replicate 160 0x00) refl _ (lit≤ tt, (lit≤ tt, tt)) (lit≤ tt)

-- rounds of one, undisturbed: whole after one
one-round : HasMessage (setting 1) (after_rounds (setting 1) [] (replicate 160 0x00) ([] ∷ []))
unfolding OneLessIsEnough UpTo destroyed setting upload segment_count
one-round = one_less_is_enough (setting 1) 0 (allowed 1 (lit≤ tt) (lit≤ tt)) (lit< tt) (lit< tt) [] (replicate 160 0x00) refl _ (lit≤ tt, tt) (lit≤ tt)
