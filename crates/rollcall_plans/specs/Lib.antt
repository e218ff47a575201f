-- What a reader must believe of the calls on the roll-call table.
pub mod Calls
-- ---- what only private functions cite
pub mod Plans
