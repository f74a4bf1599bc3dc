pub mod Front
pub mod Standing
pub mod Overriding
