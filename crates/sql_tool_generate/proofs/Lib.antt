pub mod Totals
pub mod Counting
pub mod Tallies
pub mod Summaries
