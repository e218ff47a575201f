-- The theorems that the statements cite: a change that leaves the remainder has an even number of bits, is not two bits, not one
-- to five bits of 112 nor one to seven of 56, and not two bursts of 8 bits in 112 nor of 12 in 56.
-- Beside them, the number of ones of a shifted pattern, and that only 0 has none.
pub use Rattle.notices.proofs.Digits.{ones_shl, ones_zero}
pub use Rattle.notices.proofs.Odd.{even_of_zero}
pub use Rattle.notices.proofs.Four.{two_noticed, five_noticed}
pub use Rattle.notices.proofs.Six.{seven_noticed}
pub use Rattle.notices.proofs.Bursts.{two_of_eight, two_of_twelve}
