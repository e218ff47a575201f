-- The laws of the crate.
pub mod Input
pub mod Laws
