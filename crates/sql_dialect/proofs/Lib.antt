pub mod Doubled
pub mod Injective
