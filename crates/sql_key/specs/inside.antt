-- Devices: lists without the values of lists, and which nodes leave a statement its id.
pub mod Kept
pub mod Swept
