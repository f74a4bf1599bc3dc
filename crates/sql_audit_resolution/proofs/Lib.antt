pub mod Backwards
pub mod Counted
pub mod Joined
pub mod Lists
pub mod Seen
pub mod Selects
pub mod Sought
