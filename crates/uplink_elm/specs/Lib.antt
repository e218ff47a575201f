-- What a reader must believe of the receiving end of extended length messages.
pub mod Segments
pub mod Control
pub mod Receiving
