-- What a reader must believe of what an altitude code means.
pub mod Meaning
