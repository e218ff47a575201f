-- The laws that the crates above cite.
pub use Rattle.rollcall_plans.proofs.Moving.{entered, left, open-length, close_length}
pub use Rattle.rollcall_plans.proofs.Spots.{locating}
pub use Rattle.rollcall_plans.proofs.Answering.{finding, removes, adds, add_by, position-le}
-- ---- end theorems, which no proof cites
pub use Rattle.rollcall_plans.proofs.Said.{said_injective}
pub use Rattle.rollcall_plans.proofs.Answering.{clear_done, clear_refused}
