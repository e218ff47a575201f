-- The rules by which the functions over a lent slice of structs are proved.
pub mod Structs
pub mod Total
pub mod Walk
