-- The laws of the packing.
pub mod Packing
pub mod Laws
