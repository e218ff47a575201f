-- What a reader must believe of answers and refusals.
pub mod Refusals
pub mod Outcomes
