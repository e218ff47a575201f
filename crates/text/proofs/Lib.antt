-- The laws of text as it is written.
pub mod Parts
pub mod Appending
pub mod Spelling
pub mod Above
pub mod Signs
pub mod Laws
