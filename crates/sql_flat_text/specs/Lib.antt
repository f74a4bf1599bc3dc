-- How many steps it takes to write a flat list. What is written is said in the words of the crates below.
pub mod Steps
-- Devices of proofs.
pub mod inside
