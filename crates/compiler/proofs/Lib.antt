-- The laws of the compiled operators.
pub mod Unary
pub mod Attributes
pub mod Record
pub mod Optional
pub mod Gather
