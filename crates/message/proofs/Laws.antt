-- The laws that the crates above cite: the number of a byte list, the parts of a message, and the tests.
pub use Rattle.message.proofs.Bytes.{number-nil, number-cons, number-one, number_append, number-split, number-joined, number-append_byte, number-next, field_is, parity_field_is, field-length, number-message, number-two, number_three, number-four, next_bit, bytes_drop, bytes_take, bytes-append, number_lt, number_part_lt, parity_field-lt, number_injective}
pub use Rattle.message.proofs.Lengths.{word_lt, lt-word, words, message-length, message-length_ge, long_length, long_message, long_field, field-length-le, field_is_field}
pub use Rattle.message.proofs.Inverting.{bytes_of_number, inverted-length, inverted-bytes, inverted-number, inverted_by_number, inverted_part, in_window_lt}
pub use Rattle.message.proofs.Reading.{bit_is, same_format, first_bit_by, same-first_bit, long_by_first_bit, agrees_long}
pub use Rattle.message.proofs.FirstBit.{first-bit-kept, first-bit-inverted}
