pub mod Among
pub mod ClauseNodes
pub mod Lists
pub mod Under
pub mod Unflattening
