pub mod Limits
pub mod Locks
pub mod Marking
pub mod Operators
pub mod Positions
pub mod Sources
pub mod Words
