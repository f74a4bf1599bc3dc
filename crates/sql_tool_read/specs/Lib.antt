-- The output for a text.
pub mod Input
pub mod Line
