-- The theorems.
pub mod Simulating
pub mod Sealed
pub mod Showing
pub mod Parts
pub mod Laws
