-- The laws of the altitude of a reply.
pub mod Placing
pub mod Answering
pub mod Written
pub mod Laws
