pub mod Boxes
pub mod Growing
pub mod PartCells
pub mod WorkedParts
