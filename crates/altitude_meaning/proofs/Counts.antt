-- How many of the 8192 codes mean what, by computed tests.
use mathlib.Core.Path.{◌≡◌, refl}
use Rattle.altitude_code.specs.Gray.{gray_number}
use Rattle.altitude_code.specs.Codes.{binary, digit, eleven_bits, gray_bits, c_bits, in_order}
use Rattle.altitude_code.specs.Altitudes.{feet_by_25, feet_by_100, place_in, decoded_by_100, decoded_of}
use Rattle.altitude_meaning.specs.Meaning.{how_many, is_illegal, in_steps_of_25, in_steps_of_100}

pub by_25 : how_many 13 in_steps_of_25 ≡ 2048
unfolding how_many decoded_of decoded_by_100 feet_by_25 feet_by_100 place_in binary digit eleven_bits gray_bits c_bits in_order gray_number
by_25 = refl

pub by_100 : how_many 13 in_steps_of_100 ≡ 1280
unfolding how_many decoded_of decoded_by_100 feet_by_25 feet_by_100 place_in binary digit eleven_bits gray_bits c_bits in_order gray_number
by_100 = refl

pub illegal : how_many 13 (λ k. is_illegal (decoded_of k)) ≡ 767
unfolding how_many decoded_of decoded_by_100 feet_by_25 feet_by_100 place_in binary digit eleven_bits gray_bits c_bits in_order gray_number
illegal = refl
