pub mod Forms
pub mod Tree
pub mod View
