pub mod Nodes
pub mod Putting
pub mod NextCells
pub mod FilledParts
pub mod Reaching
pub mod Narrowing
pub mod CellBoxes
