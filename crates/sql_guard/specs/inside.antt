-- Devices: tests of the nodes of a flat list.
pub mod Kinds
-- Devices: parts of a node's tree, guarded.
pub mod Guarding
