pub mod Counting
pub mod Framing
pub mod Fusing
pub mod Keeping
pub mod Pouring
pub mod Reading
pub mod Turning
pub mod Written
