pub mod Lists
pub mod PartTexts
pub mod TextLaws
pub mod FitsLaws
pub mod ReadingLaws
pub mod Parts
pub mod Worked
