-- A worked number for every answer of the calls from C, and for every refusal; docs/C-INTERFACE.md has the same. The messages are
-- document 01's bench values, an all-call and a broadcast. The sensor's calls that are no refusals stand in Instances.antt, with
-- what is right of them; here are the numbers of its answers, the lowest and the highest window among them.
use mathlib.Core.Path.{◌≡◌, refl}
use mathlib.Core.List.{List, [], ◌∷◌}
use Prim.Native.Nat.{ℕ}
use Rattle.message.specs.Message.{number, format_number, first_bit, first_bit_agrees, is_message_length, is_word}
use Rattle.division.specs.Polynomial.{polynomial, downwards}
use Rattle.division.specs.Division.{generator, generator_powers, reduce, divide, quotient, address_read}
use Rattle.encoder.specs.Seals.{seal_outcome}
use Rattle.transponder.specs.Receptions.{reception_of, is_reserved, reception_outcome}
use Rattle.sensor.specs.Verdicts.{sole_mark, several_mark, clean_answer, dense_answer, no_fit_answer, corrected_answer, checked, sensor_outcome}
use Rattle.remainders.specs.Recording.{are_as_many, remainders_outcome}
use Rattle.mode_s.specs.Packing.{parts, packed}
use Rattle.mode_s.specs.Packing.Source.{sensor}
use Rattle.conformance.specs.Packing.{number_of}
use Rattle.conformance.specs.Packing.FromC.{seal_reply, seal_interrogation, receive, correct, divide as divide_replies}

-- sealed, and refusals 1, 3 and 5
seals : (number_of (seal_reply (0x00 ∷ 0x00 ∷ 0x80 ∷ 0x00 ∷ 0x00 ∷ 0x00 ∷ 0x00 ∷ []) 0x123456) ≡ 0x0000000000000002)
    × (number_of (seal_interrogation (0x00 ∷ 0x00 ∷ 0x00 ∷ 0x00 ∷ 0x00 ∷ 0x00 ∷ 0x00 ∷ []) 0x000002) ≡ 0x0000000000000002)
    × (number_of (seal_reply (0x00 ∷ 0x00 ∷ 0x00 ∷ 0x00 ∷ 0x00 ∷ 0x00 ∷ []) 0x123456) ≡ 0x0000000000000101)
    × (number_of (seal_reply (0x00 ∷ 0x00 ∷ 0x80 ∷ 0x00 ∷ 0x00 ∷ 0x00 ∷ 0x00 ∷ []) 0x1000000) ≡ 0x0000000000000301)
    × (number_of (seal_interrogation (0x80 ∷ 0x00 ∷ 0x00 ∷ 0x00 ∷ 0x00 ∷ 0x00 ∷ 0x00 ∷ []) 0x000002) ≡ 0x0000000000000501)
unfolding seal_outcome is_message_length is_word first_bit_agrees first_bit parts packed
seals = (refl, refl, refl, refl, refl)

-- own, all-call, not ours with 000002 and with FFFFFF, broadcast, and refusal 6
receptions : (number_of (receive 0x000002 (0x00 ∷ 0x00 ∷ 0x00 ∷ 0x00 ∷ 0x00 ∷ 0x00 ∷ 0x03 ∷ [])) ≡ 0x0000000000000003)
    × (number_of (receive 0x000002 (0x58 ∷ 0x00 ∷ 0x00 ∷ 0x00 ∷ 0x4A ∷ 0x43 ∷ 0x0A ∷ [])) ≡ 0x0000000000000004)
    × (number_of (receive 0x123456 (0x00 ∷ 0x00 ∷ 0x00 ∷ 0x00 ∷ 0x00 ∷ 0x00 ∷ 0x03 ∷ [])) ≡ 0x0000020000000005)
    × (number_of (receive 0x123456 (0x00 ∷ 0x00 ∷ 0x00 ∷ 0x00 ∷ 0xAA ∷ 0xAC ∷ 0x07 ∷ [])) ≡ 0xFFFFFF0000000005)
    × (number_of (receive 0x000002 (0xA8 ∷ 0x00 ∷ 0x00 ∷ 0x00 ∷ 0x00 ∷ 0x00 ∷ 0x00 ∷ 0x00 ∷ 0x00 ∷ 0x00 ∷ 0x00 ∷ 0xA1 ∷ 0xB9 ∷ 0x48 ∷ [])) ≡ 0x0000000000000006)
    × (number_of (receive 0xFFFFFF (0x00 ∷ 0x00 ∷ 0x00 ∷ 0x00 ∷ 0x00 ∷ 0x00 ∷ 0x03 ∷ [])) ≡ 0x0000000000000601)
unfolding polynomial downwards generator generator_powers reduce divide quotient address_read number format_number first_bit first_bit_agrees is_message_length is_word reception_of is_reserved reception_outcome parts packed
receptions = (refl, refl, refl, refl, refl, refl)

-- refusals 2 and 4
refusals : (number_of (correct (0x00 ∷ 0x00 ∷ 0x00 ∷ 0x00 ∷ 0xEB ∷ 0x24 ∷ 0x72 ∷ []) (0x00 ∷ 0x00 ∷ 0x80 ∷ 0x00 ∷ 0x00 ∷ 0x00 ∷ 0x00 ∷ 0x00 ∷ 0x00 ∷ 0x00 ∷ 0x00 ∷ 0x00 ∷ 0x00 ∷ 0x00 ∷ []) 0x123456 24) ≡ 0x0000000000000201)
    × (number_of (correct (0x00 ∷ 0x00 ∷ 0x00 ∷ 0x00 ∷ 0xEB ∷ 0x24 ∷ 0x72 ∷ []) (0x00 ∷ 0x00 ∷ 0x80 ∷ 0x00 ∷ 0x00 ∷ 0x00 ∷ 0x00 ∷ []) 0x123456 25) ≡ 0x0000000000000401)
unfolding is_message_length is_word checked sensor_outcome parts packed
refusals = (refl, refl)

-- clean, dense, no fit and corrected
verdicts : (packed sensor clean_answer ≡ 0x0000000000000007)
    × (packed sensor (dense_answer 0) ≡ 0x0000000000000008)
    × (packed sensor (dense_answer 29) ≡ 0x000000001D000008)
    × (packed sensor (dense_answer 88) ≡ 0x0000000058000008)
    × (packed sensor no_fit_answer ≡ 0x0000000000000009)
    × (packed sensor (corrected_answer 0 1 sole_mark) ≡ 0x000000010001000A)
    × (packed sensor (corrected_answer 8 1 several_mark) ≡ 0x000000010802000A)
    × (packed sensor (corrected_answer 88 1 sole_mark) ≡ 0x000000015801000A)
unfolding parts packed
verdicts = (refl, refl, refl, refl, refl, refl, refl, refl)

-- divided, and refusal 1, of a recording of one reply (a reply that carries 000000)
abbrev reply : List ℕ
reply = 0x8D ∷ 0x48 ∷ 0x40 ∷ 0xD6 ∷ 0x20 ∷ 0x2C ∷ 0xC3 ∷ 0x71 ∷ 0xC3 ∷ 0x2C ∷ 0xE0 ∷ 0x57 ∷ 0x60 ∷ 0x98 ∷ []

recordings : (number_of (divide_replies reply (0 ∷ [])) ≡ 0x000000000000000B)
    × (number_of (divide_replies reply (0 ∷ 0 ∷ [])) ≡ 0x0000000000000101)
unfolding are_as_many remainders_outcome parts packed
recordings = (refl, refl)
