-- Keys by names.
pub mod inside
