-- What an instruction's struct and its reader's view say of each other.
pub mod Views
