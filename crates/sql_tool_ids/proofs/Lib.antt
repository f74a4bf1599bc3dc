pub mod Few
pub mod Placed
pub mod Remembering
