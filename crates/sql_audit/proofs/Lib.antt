pub mod Once
pub mod Present
pub mod Reports
