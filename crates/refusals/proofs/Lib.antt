-- What the tests of operands lean on.
mod Sorts
mod Held
mod Absent
