-- What a reader must believe of the arguments of a line.
pub mod Arguments
