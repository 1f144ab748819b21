pub mod Befores
pub mod Listed
pub mod Lifts
