pub mod Leaves
pub mod Uses
pub mod Meant
pub mod inside
