-- Devices of proofs.
pub mod HasText
