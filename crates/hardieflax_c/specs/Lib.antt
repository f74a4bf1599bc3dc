-- The meaning of a handle that C holds.
pub mod Dialects
pub mod Handles
pub mod Owning
