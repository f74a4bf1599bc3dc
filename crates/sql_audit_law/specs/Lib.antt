-- Whose columns the uses of a statement's text are.
pub mod Own
