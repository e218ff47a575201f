-- Worked instances of the statements on altitudes: each answer of the reader, a written altitude of each step, and two
-- neighbours, so that none of them holds for want of a case.
use mathlib.Core.Path.{◌≡◌, refl}
use mathlib.Core.List.{List, [], ◌∷◌}
use Prim.Native.Nat.{ℕ}
use lib.IntN.{pos, negsuc}
use Rattle.message.specs.Message.{number, format_number, first_bit, first_bit_agrees, is_message_length}
use Rattle.message.specs.Bits.{number_bytes}
use Rattle.altitude_code.specs.Gray.{gray, gray_number}
use Rattle.altitude_code.specs.Codes.{binary, digit, eleven_bits, gray_bits, c_bits, in_order, c_pattern}
use Rattle.altitude_code.specs.Altitudes.{feet_by_25, feet_by_100, place_in, decoded_by_100, decoded_of, code_by_25, placed, code_by_100, lowest, highest, in_code, code_of, encoded_of}
use Rattle.altitude_code.specs.declared.Decoded.TheVariants as D
use Rattle.std.specs.Prelude.{Some, None}
use Rattle.altitude.specs.Fields.{has_altitude, altitude_code, with_code}
use Rattle.altitude.specs.Answers.{said_field, said_written, reading_of, reading_outcome, writing_outcome, writing_after}
use Rattle.altitude.specs.declared.Writing.TheVariants.{Written}

-- a reply of format 4 with the code k, and one of format 20 that says 32300 feet
reply : ℕ → ℕ → List ℕ
reply c d = 0x20 ∷ 0x00 ∷ c ∷ d ∷ 0x02 ∷ 0x9F ∷ 0xCD ∷ []

long_reply : List ℕ
long_reply = 0xA0 ∷ 0x20 ∷ 0x14 ∷ 0xB4 ∷ 0x00 ∷ 0x00 ∷ 0x00 ∷ 0x00 ∷ 0x00 ∷ 0x00 ∷ 0x00 ∷ 0xF9 ∷ 0xD5 ∷ 0x14 ∷ []

answers_met : (reading_outcome long_reply ≡ said_field (Some (D.Feet (pos 32300))))
    × (reading_outcome (reply 0x01 0x00) ≡ said_field (Some (D.Feet (negsuc 1199))))
    × (reading_outcome (reply 0xE0 0x00) ≡ said_field (Some D.NoAltitude))
    × (reading_outcome (reply 0x01 0x40) ≡ said_field (Some D.Metric))
    × (reading_outcome (reply 0x00 0x01) ≡ said_field (Some D.Illegal))
    × (reading_outcome (0x28 ∷ 0x00 ∷ 0x01 ∷ 0x00 ∷ 0x00 ∷ 0x00 ∷ 0x00 ∷ []) ≡ said_field None)
unfolding reply long_reply reading_outcome reading_of has_altitude altitude_code is_message_length first_bit_agrees first_bit format_number number decoded_of decoded_by_100 feet_by_25 feet_by_100 eleven_bits gray_bits c_bits binary digit place_in in_order gray_number
answers_met = (refl, refl, refl, refl, refl, refl)

-- −1200 in steps of 100 over a metric code, and 50175 in steps of 25 over an illegal one: bits 17 to 19 and the parity field stay
written_met : (writing_outcome (reply 0xE1 0x40) (negsuc 1199) 100 ≡ said_written Written)
    × (writing_after (reply 0xE1 0x40) (negsuc 1199) 100 ≡ reply 0xE1 0x00)
    × (writing_outcome (reply 0x00 0x01) (pos 50175) 25 ≡ said_written Written)
    × (writing_after (reply 0x00 0x01) (pos 50175) 25 ≡ reply 0x1F 0xBF)
unfolding reply writing_outcome writing_after has_altitude is_message_length first_bit_agrees first_bit format_number number number_bytes in_code lowest highest code_of code_by_25 code_by_100 placed gray c_pattern in_order binary digit with_code
written_met = (refl, refl, refl, refl)

neighbours_met : (encoded_of (pos 0) 100 ≡ Some 0x40A) × (encoded_of (pos 100) 100 ≡ Some 0x140A)
unfolding encoded_of in_code lowest highest code_of code_by_100 placed gray c_pattern in_order binary digit
neighbours_met = (refl, refl)
