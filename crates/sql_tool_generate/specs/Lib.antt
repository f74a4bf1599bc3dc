-- The line that sums up generated requests.
pub mod Generated
pub mod Counts
pub mod Summary
-- A device of proofs: what the functions inside `generate` promise. Nothing under `inside` has to be believed.
pub mod inside
