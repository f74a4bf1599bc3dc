pub mod Built
pub mod Made
pub mod Named
-- A device of proofs. Nothing under `inside` has to be believed.
pub mod inside
