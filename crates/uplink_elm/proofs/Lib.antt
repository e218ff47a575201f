-- The laws of the receiving end of extended length messages.
pub mod Numbers
pub mod Effects
pub mod Refusing
pub mod Places
pub mod Laws
