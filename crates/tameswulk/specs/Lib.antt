-- What the functions give that a program in C or Rust calls.
pub mod Library
