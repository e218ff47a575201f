-- The plain machine of document 02, Point 7, and the statements about it; the theorems that prove them stand in proofs/ under the
-- same names, in lower case.
pub mod Machine
pub mod Running
