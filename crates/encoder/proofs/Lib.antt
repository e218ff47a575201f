-- The laws of the encoders.
pub mod Sealing
pub mod Sealed
pub mod Laws
