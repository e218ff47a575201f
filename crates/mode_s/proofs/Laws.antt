-- The laws that the crates above cite, about the definitions that the contracts name.
pub use Rattle.mode_s.proofs.Packing.{gives_back, one_to_one, same-answer-same-number}
-- ---- end theorems, which no proof cites
pub use Rattle.mode_s.proofs.Packing.{parts-apart, one_to_one_of_one, alike_where_refused, never_zero}
