-- What a reader must believe of text as it is written, in this order. What lines, columns and digits mean where they are
-- read is in the crate reading.
pub mod Ascii
pub mod Digits
pub mod Output
