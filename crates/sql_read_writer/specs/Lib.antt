pub mod All
pub mod More
