-- The laws of the shift report.
pub mod Same
pub mod Columns
pub mod Counts
pub mod Pages
pub mod Answered
pub mod Printing
pub mod Instances
pub mod Laws
