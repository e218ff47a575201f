-- The laws that the crates above cite, about the definitions that the contract names.
pub use Rattle.sensor.proofs.Checking.{Admitted, sizes}
pub use Rattle.sensor.proofs.Deciding.{unrefused, outcome_decided, after_decided, after-refused, fits-none, fits-at, decides_dense, decides_sparse, decides_clean, decides_hit}
pub use Rattle.sensor.proofs.Relation.{carries_zero, zero_carries, fit_is, is-fit, dense_is, not_dense, highest-found, highest-empty, differs_is, same_is, ones_change}
-- ---- end theorems, which no proof cites
pub use Rattle.sensor.proofs.Said.{said_injective}
