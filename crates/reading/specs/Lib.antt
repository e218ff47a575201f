-- What a reader must believe of text as it is read, in this order.
pub mod Lines
pub mod Digits
