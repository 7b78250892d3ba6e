-- What is told, given and answered where something else is lent.
pub mod Giving
