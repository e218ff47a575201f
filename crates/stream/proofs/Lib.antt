-- The laws of a recording in pieces.
pub mod Keeping
pub mod Printing
pub mod Refusing
pub mod Joining
pub mod Laws
