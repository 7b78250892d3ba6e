-- One call: the table of operations, the refusals in their order, what is answered, and what is promised of it.
pub mod Table
pub mod Senses
pub mod Call
pub mod Refusals
pub mod Answers
pub mod Promises
pub mod Forms
