-- The laws of the arena, one family to a file, in the order in which they lean on each other.
-- tests, lists, runs
pub mod Bools
pub mod Runs
pub mod Rising
pub mod Loops
pub mod Insertion
pub mod Widths
-- nodes and arenas
pub mod Ext
pub mod Chain
pub mod View
pub mod Put
pub mod Base
pub mod Types
pub mod Whole
pub mod Fields
-- values and meanings
pub mod Order
pub mod Sets
pub mod SetOps
pub mod Fits
pub mod Sound
pub mod Canon
pub mod TypeCanon
pub mod Known
pub mod LitSets
pub mod Built
-- flat cells
pub mod Flat
pub mod Formed
pub mod Read
pub mod Tiling
pub mod Same
pub mod Scan
pub mod Starts
pub mod Stretch
pub mod Padded
pub mod FreshCells
pub mod Steps
pub mod Rules
pub mod Lent
pub mod Visit
-- by computation
pub mod Examples
