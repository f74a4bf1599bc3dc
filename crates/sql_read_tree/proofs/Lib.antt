pub mod Capped
pub mod Lists
pub mod Paths
pub mod Views
