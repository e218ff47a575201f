-- The theorems that the crates above cite.
pub use Rattle.altitude_meaning.proofs.Meanings.{means, means-only, encodes, encodes_only}
pub use Rattle.altitude_meaning.proofs.Neighbours.{neighbours}
pub use Rattle.altitude_meaning.proofs.Counts.{by_25, by_100, illegal}
-- ---- end theorems, which no proof cites
pub use Rattle.altitude_meaning.proofs.Tests.{gray-sum}
