pub mod AnswerLines
pub mod Answering
pub mod Laws
pub mod LineCalls
pub mod LineMeanings
pub mod LineWords
pub mod QueryTexts
pub mod Runs
