pub mod Steps
pub mod Placed
