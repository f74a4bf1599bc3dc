-- Trees of nodes and their flat lists.
pub mod Rose
-- A device of proofs: a list that grows.
pub mod Building
-- The results of a tree: from below, from above, and gathered.
pub mod Folds
-- The text that is written of a tree.
pub mod Told
-- The stacks of loops.
pub mod Finished
pub mod Opened
pub mod Seen
-- The loops over the flat list of a tree, turn by turn.
pub mod Backward
pub mod Around
pub mod Forward
pub mod Telling
