pub mod Bytes
pub mod EachItem
pub mod Filling
pub mod Keeping
pub mod Pairs
pub mod Nesting
pub mod Numbers
pub mod Seen
