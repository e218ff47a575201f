-- The laws that the crates above cite, about the definitions that the contracts name.
pub use Rattle.remainders.proofs.Answering.{divided_done}
-- ---- end theorems, which say what the definitions are and which no proof above cites
pub use Rattle.remainders.proofs.Answering.{said_injective}
pub use Rattle.remainders.proofs.Listing.{each_alone}
