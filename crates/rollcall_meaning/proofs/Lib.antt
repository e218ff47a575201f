-- The proofs of the statements.
pub mod Ordering
pub mod Sounding
pub mod Mapping
pub mod Changing
pub mod Plain
pub mod Running
pub mod Standing
pub mod Refusing
pub mod Replying
pub mod Instances
pub mod Laws
