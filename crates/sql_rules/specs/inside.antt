-- Devices of proofs and of contracts on tests.
pub mod Misfits
