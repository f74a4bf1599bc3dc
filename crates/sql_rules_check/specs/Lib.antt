-- The answer of `judge`.
pub mod First
-- Devices of proofs alone: the rules are defined in `sql_rules` (`Rules`).
pub mod inside
