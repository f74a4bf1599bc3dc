pub mod Columns
pub mod Declarations
pub mod Equality
pub mod Refusals
pub mod Relations
pub mod Together
pub mod formers
pub mod inside
