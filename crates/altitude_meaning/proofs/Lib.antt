-- The theorems on what a code means.
pub mod Tests
pub mod Meanings
pub mod Neighbours
pub mod Counts
pub mod Laws
