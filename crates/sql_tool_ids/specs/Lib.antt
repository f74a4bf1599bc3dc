-- Ids in a session.
pub mod Memory
-- A device of proofs. Nothing under `inside` has to be believed.
pub mod inside
