-- What a reader must believe of the remainders of a recording.
pub mod Recording
-- What only private functions cite.
pub mod Entries
