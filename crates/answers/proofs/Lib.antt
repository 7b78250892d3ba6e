-- Laws of lines, in the order in which they lean on each other.
pub mod Turns
pub mod Answers
pub mod Examples
