-- What a reader must believe of the columns of a verdict.
pub mod Columns
