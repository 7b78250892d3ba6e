-- A whole script: what is written, as a function of what is read.
pub mod Script
pub mod Calls
pub mod Running
