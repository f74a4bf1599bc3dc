pub mod Refused
-- Policies of several tables: which are sound, and which statements they guard.
pub mod Misread
pub mod Closed
pub mod Trees
-- Devices: tests of the nodes of a flat list.
pub mod inside
