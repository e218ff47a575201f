-- The laws of the report.
pub mod Forms
pub mod Texts
pub mod Rows
pub mod Long
pub mod Laws
