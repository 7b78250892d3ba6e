-- The compiled operators, step by step as compiler.rs.
pub mod Compiler
pub mod Meanings
pub mod Buffers
