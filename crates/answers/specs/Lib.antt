-- The lines that answer a script.
pub mod Lines
pub mod Replies
