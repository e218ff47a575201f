-- The laws of the altitude code.
pub mod Digits
pub mod Places
pub mod Gray
pub mod Encoding
pub mod Decoding
pub mod Laws
