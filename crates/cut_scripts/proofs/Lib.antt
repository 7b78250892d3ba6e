-- Scripts that are cut and changed, computed from the definitions.
mod Damaged
