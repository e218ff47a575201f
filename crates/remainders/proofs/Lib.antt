-- The laws of the remainders of a recording.
pub mod Summing
pub mod Filling
pub mod Listing
pub mod Answering
pub mod Laws
