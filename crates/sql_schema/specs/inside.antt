pub mod ColumnAt
pub mod Indices
pub mod NameSets
pub mod Pairs
pub mod Spelled
pub mod Split
pub mod Tables
