pub mod Kept
pub mod Viewing
