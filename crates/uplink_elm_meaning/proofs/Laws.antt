-- The laws that the crates above cite.
pub use Rattle.uplink_elm_meaning.proofs.Simulating.{Good, same_numbers, same-progress, same_outcome, good-after, good_all, good_fresh, same-all, machine_after-none, machine_after-one, machine_after-append, step_of_own, opened_with, adds_to, added_to, asking_adds}
pub use Rattle.uplink_elm_meaning.proofs.Sealed.{sealed-number-is, sealed-step, sealed-shows}
-- ---- end theorems, which no proof cites
pub use Rattle.uplink_elm_meaning.proofs.Simulating.{as_the_machine}
pub use Rattle.uplink_elm_meaning.proofs.Showing.{whole_when_all-held, acknowledged_when_held, starts_empty, none-above_last}
pub use Rattle.uplink_elm_meaning.proofs.Parts.{parts_are_bits}
