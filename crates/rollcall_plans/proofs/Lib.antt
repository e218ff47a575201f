-- The laws of the calls on the roll-call table.
pub mod Moving
pub mod Spots
pub mod Answering
pub mod Said
pub mod Laws
