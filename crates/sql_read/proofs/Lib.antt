pub mod Closed
pub mod Found
pub mod Readback
