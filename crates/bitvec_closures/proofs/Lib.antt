-- Laws of signed values.
pub mod Signed
