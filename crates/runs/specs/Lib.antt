pub mod Strides
pub mod Fields
