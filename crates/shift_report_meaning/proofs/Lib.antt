-- The theorems on the shift report.
pub mod Stated
