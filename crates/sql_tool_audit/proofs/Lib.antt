pub mod Floats
pub mod Lines
pub mod Once
