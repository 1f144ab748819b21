pub mod Laws
pub mod Meshes
