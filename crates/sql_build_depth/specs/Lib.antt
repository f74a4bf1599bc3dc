-- How deep the statement of a query nests.
pub mod Depth
-- How many tables a select of a query reads.
pub mod Leaves
-- A device of proofs. Nothing under `inside` has to be believed.
pub mod inside
