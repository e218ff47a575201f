-- The theorems, which no proof cites.
pub use Rattle.uplink_elm_rounds.proofs.Theorems.{whole_in_time, one_less_is_enough, kept_incomplete, opening_lacks, nothing_when_whole, two_are_needed}
pub use Rattle.uplink_elm_rounds.proofs.Rounds.{lowest-first, starts_over, none_when_all, is_sealed}
