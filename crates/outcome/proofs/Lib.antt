-- The laws of answers and refusals.
pub mod Small
pub mod Rows
pub mod Picking
pub mod Testing
pub mod Laws
