-- The output for a document.
pub mod Output
pub mod Judgement
pub mod Objects
pub mod Ids
pub mod Shared
-- A device of proofs: the program's own keys. Nothing under `inside` has to be believed.
pub mod inside
