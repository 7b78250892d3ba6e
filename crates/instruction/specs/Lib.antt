-- An instruction of a script, as its reader sees it.
pub mod Instruction
