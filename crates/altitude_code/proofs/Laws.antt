-- The laws that the crates above cite.
pub use Rattle.altitude_code.proofs.Digits.{bit_lt, eleven_lt, gray-lt, c_lt}
pub use Rattle.altitude_code.proofs.Places.{in_order_lt, in_order_twice, pattern-place, place-pattern}
pub use Rattle.altitude_code.proofs.Encoding.{above-feet, in_code_lem, InCode, was_in_code, in_25, of_25, feet_100, in_100, of_100, encoded_in, was_encoded, out_of_code, encoded_lt}
pub use Rattle.altitude_code.proofs.Decoding.{illegal, legal, decoded-none, decoded-metric, decoded-25, decoded-100}
