pub mod CountLaws
pub mod FieldLaws
pub mod JoinLaws
pub mod SelectionLaws
