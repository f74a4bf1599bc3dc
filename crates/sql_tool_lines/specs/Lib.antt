-- What a conversation over lines does.
pub mod Conversation
pub mod Lines
pub mod Turns
-- A device of proofs. Nothing under `inside` has to be believed.
pub mod inside
