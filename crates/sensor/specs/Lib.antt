-- What a reader must believe of the sensor: the relation of document 01, and what the call answers and leaves.
pub mod Changes
pub mod Verdicts
-- What only private functions cite.
pub mod Searching
