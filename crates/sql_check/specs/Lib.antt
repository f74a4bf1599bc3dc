-- The answer of `compile`, and the types of a statement's columns.
pub mod Compiled
pub mod Errors
pub mod Fused
pub mod Typed
