-- The types of values.
pub mod Blank
-- A statement of which the laws hold.
pub mod Examples
-- Whether values fit their types.
pub mod Fitting
-- Shapes without lengths.
pub mod Lengths
-- The names of paths.
pub mod Paths
