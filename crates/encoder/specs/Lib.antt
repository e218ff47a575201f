-- What a reader must believe of the encoders.
pub mod Seals
