-- The laws of the two-antenna transponder.
pub mod Choosing
pub mod Laws
