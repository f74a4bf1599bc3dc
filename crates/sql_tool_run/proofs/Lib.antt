pub mod Commands
pub mod Counts
pub mod Endings
pub mod Headlines
pub mod Items
pub mod Once
pub mod Outcomes
pub mod Taking
