pub mod Path
pub mod View
pub mod Counts
