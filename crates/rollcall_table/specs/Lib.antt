-- What a reader must believe of the roll-call table.
pub mod Table
pub mod Standing
-- ---- what only private functions cite
pub mod Checks
