-- The arena in the order of document 01: its cells and nodes, when it is well formed, what builders leave, values, and what its terms mean.
pub mod Lists
pub mod Runs
pub mod Nodes
pub mod Cells
pub mod Node
pub mod Walks
pub mod WellFormed
pub mod Lent
pub mod Visit
pub mod Fresh
pub mod Did
pub mod Values
pub mod Meaning
pub mod View
