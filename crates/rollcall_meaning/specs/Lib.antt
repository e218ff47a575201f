-- Document 02, Points 4 and 12, sentence by sentence.
pub mod Maps
pub mod Keeping
pub mod Running
pub mod Standing
