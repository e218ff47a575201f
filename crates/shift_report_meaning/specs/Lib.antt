-- What is stated of the shift report.
pub mod Counting
