-- What is stated of a recording in pieces.
pub mod Pieces
