pub mod ClauseLaws
pub mod FindLaws
pub mod OrderLaws
