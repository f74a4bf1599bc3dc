pub mod Among
pub mod IdLaws
pub mod Positions
pub mod Twice
