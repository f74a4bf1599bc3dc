pub mod Alls
pub mod Digits
pub mod Lists
pub mod Names
