-- The output for an audited text.
pub mod Line
pub mod Output
