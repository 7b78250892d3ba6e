-- What is accepted, the laws of the table and the demands; the table by number and the tests' order, for the code; what the contract promises, and that it allows one result; document 01's examples.
pub mod First
pub mod Fits
pub mod Rows
pub mod Laws
pub mod Demand1
pub mod Demand3
pub mod Numbers
pub mod Suits
pub mod Order
pub mod Kept
pub mod Dispatch
pub mod Entry
pub mod Once
pub mod Promise
pub mod Examples
pub mod Arms
