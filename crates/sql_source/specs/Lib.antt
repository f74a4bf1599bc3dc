pub mod Counts
pub mod Fields
pub mod Joins
pub mod Samples
pub mod Selections
