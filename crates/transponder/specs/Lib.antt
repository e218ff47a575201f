-- What a reader must believe of the transponder.
pub mod Receptions
