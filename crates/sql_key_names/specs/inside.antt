-- Devices: the order of keys by names, and what it does not tell apart.
pub mod Exact
pub mod Hashed
pub mod Named
