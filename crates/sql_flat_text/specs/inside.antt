-- Devices: what is written of each kind of node, and what is written so far.
pub mod Kept
pub mod Sinks
pub mod Turns
pub mod Writing
