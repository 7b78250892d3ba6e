-- Laws of the encoding, in the order in which they lean on each other.
pub mod Choices
pub mod Digits
pub mod Groups
pub mod Steps
pub mod Filling
pub mod Encoded
pub mod Listed
pub mod Handed
pub mod Putting
pub mod Turns
pub mod Examples
