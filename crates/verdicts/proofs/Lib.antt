-- The laws of the columns of a verdict.
pub mod Texts
pub mod Laws
