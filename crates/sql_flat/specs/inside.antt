-- Devices: trees of parts of nodes; what trees of nodes stand for, by which a list is read.
pub mod Among
pub mod Items
pub mod Parts
pub mod Reading
