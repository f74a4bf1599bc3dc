pub mod Inputs
pub mod Once
