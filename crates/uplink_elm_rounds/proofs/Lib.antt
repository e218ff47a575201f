-- The theorems.
pub mod Sets
pub mod Rounds
pub mod Playing
pub mod Theorems
pub mod Instances
pub mod Laws
