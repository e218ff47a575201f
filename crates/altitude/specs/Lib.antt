-- What a reader must believe of the altitude of a reply.
pub mod Fields
pub mod Answers
