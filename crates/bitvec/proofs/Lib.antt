-- The laws by which the functions' goals close.
pub mod Laws
