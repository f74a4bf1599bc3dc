-- The effects of a run of the program.
pub mod Command
pub mod Limits
pub mod Run
pub mod Status
-- A device of proofs: what the functions inside `run` promise. Nothing under `inside` has to be believed.
pub mod inside
