-- The laws that the crates above cite.
pub use Rattle.windows.proofs.Meaning.{window_number, added-number, added-length, added-bytes, sparse_window}
