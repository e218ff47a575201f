-- The laws of the division library.
pub mod Xor
pub mod Dividing
pub mod Shifting
pub mod Degrees
pub mod Reading
pub mod Table
pub mod Linear
pub mod Folds
pub mod Numbers
pub mod Shifts
pub mod Fields
pub mod Answering
pub mod Laws
