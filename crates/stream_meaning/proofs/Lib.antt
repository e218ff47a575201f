-- The theorems on a recording in pieces.
pub mod Stated
pub mod Instances
