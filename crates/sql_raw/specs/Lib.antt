-- The meaning of raw queries, and the line that shows a part.
pub mod Raw
pub mod Boxed
pub mod Debug
-- A device of proofs: the same line of what is held for it.
pub mod Shown
