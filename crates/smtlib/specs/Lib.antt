-- Bitvectors of 1 to 64 bits, as SMT-LIB defines them, on numbers below 2 to the width.
pub mod Theory
pub mod Logic
pub mod Overflow
pub mod Numbered
