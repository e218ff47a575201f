-- All rows of the bench table at once: the checker computes both columns.
use mathlib.Core.Path.{refl}
use Rattle.division.specs.Polynomial.{polynomial, downwards, product}
use Rattle.division.specs.Division.{generator, generator_powers, reduce, divide, quotient, remainder, parity, overlay, address_read}
use Rattle.message.specs.Message.{number, field, parity_field, format_number, first_bit, first_bit_agrees, is_message_length, is_field_length, is_word}
use Rattle.division.specs.Answers.{parity_answer}
use Rattle.encoder.specs.Seals.{word_bytes, with_parity, reply_parity, interrogation_parity, reply_seal, interrogation_seal, seal_outcome, reply_after, interrogation_after}
use Rattle.transponder.specs.Receptions.{reception_of, is_reserved, reception_outcome}
use Rattle.conformance.specs.Bench.{bench_table, BenchHolds}

pub bench_holds : BenchHolds
unfolding BenchHolds bench_table polynomial downwards product generator generator_powers reduce divide quotient remainder parity overlay address_read number field parity_field format_number first_bit first_bit_agrees is_message_length is_field_length is_word parity_answer word_bytes with_parity reply_parity interrogation_parity reply_seal interrogation_seal seal_outcome reply_after interrogation_after reception_of is_reserved reception_outcome
bench_holds = refl
