pub mod After
pub mod Lists
