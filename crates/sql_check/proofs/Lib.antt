pub mod SamePieces
pub mod Chosen
pub mod Columns
pub mod Reading
