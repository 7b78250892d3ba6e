-- What a builder leaves of an arena.
pub mod Builds
