-- The laws of the well-formedness test.
pub mod Stands
pub mod Arms
pub mod Steps
