-- A statement as a flat list.
pub mod Flat
pub mod inside
