-- The laws of the operations, one family to a file, each cited and none repeated.
pub mod Law
pub mod Lists
pub mod Made
pub mod Listed
pub mod Logic
pub mod Equal
pub mod Choice
pub mod Bits
pub mod SetLaws
pub mod Records
pub mod Options
pub mod Guards
pub mod Calls
pub mod Operands
pub mod Picks
pub mod Turns
