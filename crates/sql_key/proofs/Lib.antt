pub mod ExactNodes
pub mod Identified
pub mod Mapping
pub mod Shapes
pub mod Sweeping
