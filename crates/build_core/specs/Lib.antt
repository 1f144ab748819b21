pub mod Pushing
pub mod Spilling
pub mod Meshes
pub mod ScratchParts
pub mod PutFiles
pub mod Building
