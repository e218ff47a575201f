-- The laws that the crates above cite.
pub use Rattle.altitude.proofs.Placing.{code_lt, With, with_code_lem, with_own}
pub use Rattle.altitude.proofs.Answering.{four_bytes, Readable, readable, reading-passed, all-checked, left-refused, said_injective}
pub use Rattle.altitude.proofs.Written.{has_by_format, has_format, format_has, reading_has, reading_has-not, reading_final, Wrote, wrote, was-written, after-cases}
-- ---- end theorems, which no proof cites
pub use Rattle.altitude.proofs.Answering.{said-written_injective}
