-- What a reader must believe of the altitude code.
pub mod Gray
pub mod Codes
pub mod Altitudes
-- ---- cited by private functions alone
pub mod Counting
