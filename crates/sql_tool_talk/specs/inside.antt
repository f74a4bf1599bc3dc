pub mod Talkers
