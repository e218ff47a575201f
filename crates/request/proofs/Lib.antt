-- The laws of a well-formed line.
pub mod Formed
pub mod Laws
