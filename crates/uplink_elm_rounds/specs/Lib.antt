-- The rounds of an extended length message, and the statements about them; the theorems that prove them stand in proofs/ under the same
-- names, in lower case.
pub mod Rounds
pub mod Game
pub mod Statements
