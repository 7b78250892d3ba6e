-- Laws of a script's steps, in the order in which they lean on each other.
pub mod Short
pub mod Steps
pub mod Going
pub mod Calls
pub mod Examples
