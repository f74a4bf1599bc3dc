-- The key of a statement.
pub mod Blank
pub mod Keys
pub mod inside
