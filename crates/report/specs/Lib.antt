-- What a reader must believe of sift.
pub mod Sift
