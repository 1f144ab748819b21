pub mod Spooling
pub mod Window
