-- The laws of the sensor.
pub mod Marks
pub mod Bits
pub mod FirstBit
pub mod Checking
pub mod Fits
pub mod Deciding
pub mod Relation
pub mod Said
pub mod Laws
