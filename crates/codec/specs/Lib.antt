-- The bytes of a script.
pub mod Digits
pub mod Numbers
pub mod Instructions
pub mod Writing
