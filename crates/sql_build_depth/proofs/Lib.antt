pub mod Depths
pub mod Sums
