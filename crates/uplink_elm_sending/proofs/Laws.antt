-- The laws that the crates above cite, about the definitions that the contracts name.
pub use Rattle.uplink_elm_sending.proofs.Numbers.{taken_none, taken-length, taken-le, round_by_test}
pub use Rattle.uplink_elm_sending.proofs.Answering.{not-round_size, not_segmented, no_room, opening-leaves, exchange-leaves, round-leaves}
pub use Rattle.uplink_elm_sending.proofs.Transmitting.{unsealed-parts, transmission-length, transmission-sealed}
pub use Rattle.uplink_elm_sending.proofs.Writing.{opening-written, exchange-written, round-answered, round-written}
-- ---- end theorems, which no proof cites
pub use Rattle.uplink_elm_sending.proofs.Answering.{said_injective}
