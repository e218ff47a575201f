-- The laws of the transponder.
pub mod Receiving
pub mod Laws
