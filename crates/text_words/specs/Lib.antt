pub mod LineWords
pub mod Numbers
