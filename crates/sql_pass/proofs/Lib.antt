pub mod Causes
pub mod Counting
pub mod Laws
pub mod Lists
pub mod Walking
