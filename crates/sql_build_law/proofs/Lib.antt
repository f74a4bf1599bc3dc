pub mod Lists
pub mod Known
pub mod Sources
pub mod Changes
pub mod Built
pub mod Unbroken
