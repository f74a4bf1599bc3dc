-- The contents of a statement cache, and the change that each call makes to it.
pub mod Calls
pub mod Entries
pub mod Sound
pub mod inside
-- The meaning of statements: `Rattle.sql_rows.specs.Fitting.{AnswersFit}` is that of `sql_rows_meaning`.
pub use Rattle.sql_rows_meaning.specs.Answers
pub use Rattle.sql_rows_meaning.specs.Beside
pub use Rattle.sql_rows_meaning.specs.Counted
pub use Rattle.sql_rows_meaning.specs.DistinctOn
pub use Rattle.sql_rows_meaning.specs.Example
pub use Rattle.sql_rows_meaning.specs.Fitting
pub use Rattle.sql_rows_meaning.specs.Frames
pub use Rattle.sql_rows_meaning.specs.Groups
pub use Rattle.sql_rows_meaning.specs.LastWriter
pub use Rattle.sql_rows_meaning.specs.Needed
pub use Rattle.sql_rows_meaning.specs.Rows
pub use Rattle.sql_rows_meaning.specs.Ungrouped
pub use Rattle.sql_rows_meaning.specs.Values
pub use Rattle.sql_rows_meaning.specs.Worked
