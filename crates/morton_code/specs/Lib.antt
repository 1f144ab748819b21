pub mod Cubes
pub mod Runs
pub mod Laws
