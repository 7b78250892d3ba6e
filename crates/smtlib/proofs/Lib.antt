-- Laws of bitvectors, for every width, in the order in which they lean on each other.
pub mod Word
pub mod Below
pub mod Tops
pub mod Negation
pub mod Absolute
pub mod Division
pub mod Columns
pub mod Orders
pub mod Examples
