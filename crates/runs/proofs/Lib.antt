-- The laws of the tests on runs.
pub mod Pairs
pub mod Given
pub mod Gives
pub mod Same
