-- What the remainder by the generator notices of a change.
pub mod Digits
pub mod Odd
pub mod Walk
pub mod Tree
pub mod Sums
pub mod Four
pub mod Bursts
pub mod Six
pub mod Laws
