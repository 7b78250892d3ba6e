-- The factory, step by step as factory.rs, on an arena without an end.
pub mod Fit
pub mod Makers
pub mod Core
pub mod Bitvectors
pub mod SetSteps
pub mod Helpers
pub mod Meanings
