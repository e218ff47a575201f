-- The laws that the crates above cite, about the definitions that the contracts name: sums of polynomials, the remainder
-- and the register, the address read and the overlay, and the value of an answer.
pub use Rattle.division.proofs.Xor.{xor_assoc, xor-zero→eq, xor_cancel, xor_cancel_r, xor_move, xor-shl}
pub use Rattle.division.proofs.Dividing.{generator_is, division_equation, multiple, product-zero, product-step, remainder-zero, remainder-lt, remainder_small, remainder-xor}
unfoldable pub use Rattle.division.proofs.Table.{reduce_by, double}
pub use Rattle.division.proofs.Table.{double_is, byte_table_rule}
pub use Rattle.division.proofs.Degrees.{product_lt, quotient-lt}
pub use Rattle.division.proofs.Shifting.{shl-suc, shl-shl, shl_comm, remainder-shl, parity-lt, parity-zero, parity-xor, parity_byte_on, backward_is, backward-lt, burst_noticed, window_unique}
pub use Rattle.division.proofs.Reading.{message-remainder, remainder-parts, address_read-remainder, address_read-lt, address_law, overlay-lt, read-overlay, remainder_by_address, parity_is, overlay-coefficient}
pub use Rattle.division.proofs.Answering.{value_is, parity-value, remainder-value, address_value, overlay-value, backward-value}
-- ---- end theorems, which say what the definitions are and which no proof above cites
pub use Rattle.division.proofs.Dividing.{division_unique, quotient-xor, product-xor}
pub use Rattle.division.proofs.Shifting.{parity_extend, backward_unique}
pub use Rattle.division.proofs.Reading.{overlay_read}
pub use Rattle.division.proofs.Fields.{three_ways}
pub use Rattle.division.proofs.Answering.{said_injective}
