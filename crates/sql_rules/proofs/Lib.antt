pub mod Lists
pub mod Loops
pub mod Nulled
pub mod SameTypes
pub mod Tests
pub mod TypeLaws
