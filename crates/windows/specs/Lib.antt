-- What a reader must believe of a window's bits.
pub mod Windows
