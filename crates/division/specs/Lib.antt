-- What a reader must believe of the division library, in this order.
pub mod Polynomial
pub mod Division
pub mod Ways
pub mod Answers
pub mod Tables
-- What only private functions cite.
pub mod Folds
