-- The requests that a number determines.
pub mod Schema
pub mod Generated
-- A device of proofs: what has been looked up. Nothing under `inside` has to be believed.
pub mod inside
