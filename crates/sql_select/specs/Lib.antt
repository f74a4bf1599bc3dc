pub mod Changes
pub mod Clauses
pub mod Finding
pub mod Joins
pub mod Parts
pub mod Simple
