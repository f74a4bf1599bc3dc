-- The origins of rows: tables, aliases, and the leaves of a source.
pub mod Borrowed
pub mod Leaves
pub mod Origins
