-- The laws of text as it is read.
pub mod Splitting
pub mod Searching
pub mod Values
pub mod Laws
