-- What a reader must believe of the sending end of extended length messages.
pub mod Sending
-- ---- what only private functions cite
pub mod Choosing
