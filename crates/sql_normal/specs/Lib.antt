pub mod Words
pub mod Filled
pub mod inside
pub mod Examples
