pub mod First
pub mod Floats
pub mod Ids
pub mod Judging
pub mod Keys
pub mod Lines
pub mod Once
pub mod Sending
