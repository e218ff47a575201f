-- What a reader must believe of the shift report: what tally prints. What is stated of it is in the crate shift_report_meaning.
pub mod Tally
-- ---- what only private functions cite
pub mod Printed
