-- The laws of a window's bits.
pub mod Meaning
pub mod Laws
