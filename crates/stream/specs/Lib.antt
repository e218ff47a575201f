-- What a reader must believe of a recording in pieces.
pub mod Stream
