pub mod Remembering
pub mod Loaned
