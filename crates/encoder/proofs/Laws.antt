-- The laws that the crates above cite, about the definitions that the contracts name.
pub use Rattle.encoder.proofs.Sealing.{accepted, was_accepted, answered-done}
pub use Rattle.encoder.proofs.Sealed.{sealed-length, sealed-field, sealed_first, sealed-parity-number, sealed-number, sealed-bytes, own_parity, reply_is, interrogation_is, reply-lt, reply-after, interrogation_after_lem, seal_by_field, remainder_sealed, sealed_read}
-- ---- end theorems, which no proof cites
pub use Rattle.encoder.proofs.Sealing.{said_injective}
