-- The laws of a message.
pub mod Bytes
pub mod Lengths
pub mod Inverting
pub mod Reading
pub mod FirstBit
pub mod Laws
