-- A device: the stack of the loop that reads a list.
pub mod Stacks
