-- The laws of the roll-call table.
pub mod Along
pub mod Counting
pub mod Soundness
pub mod Searching
pub mod Freeing
pub mod Holding
pub mod Beating
pub mod Laws
