pub mod Replies
pub mod Requests
pub mod Resets
pub mod Talks
