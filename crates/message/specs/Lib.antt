-- What a reader must believe of a message.
pub mod Message
pub mod Bits
