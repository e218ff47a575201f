-- The laws that the crates above cite.
pub use Rattle.antennas.proofs.Choosing.{said-by-tests, unrefused-choice, Case, case, case_only, no_refusal, said_injective}
