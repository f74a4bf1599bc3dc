-- The answers of a session.
pub mod Session
-- Which of the requests of a call are answered.
pub mod Within
-- Texts that are audited over the schema of a session.
pub mod Audited
