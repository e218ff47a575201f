-- The laws.
pub mod Numbers
pub mod Answering
pub mod Transmitting
pub mod Writing
pub mod Laws
