-- Reading a flat list back.
pub mod inside
