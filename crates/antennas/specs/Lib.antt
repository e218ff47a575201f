-- What a reader must believe of the two-antenna transponder.
pub mod Antennas
