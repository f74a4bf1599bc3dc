-- The shape of a statement, whether all its nodes pass tests, and whether it has an id.
pub mod Shape
pub mod Nodes
pub mod Ids
pub mod Expressions
