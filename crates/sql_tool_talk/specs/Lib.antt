-- The answers of a conversation.
pub mod Talk
-- Which lines have a session begin anew.
pub mod Resets
-- A device of proofs. Nothing under `inside` has to be believed.
pub mod inside
