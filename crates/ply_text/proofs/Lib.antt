pub mod Answers
pub mod Blocks
pub mod BodyWords
pub mod CallLaws
pub mod Callers
pub mod CappedSizes
pub mod DigitRuns
pub mod FixedNumbers
pub mod Lines
pub mod NumeralCases
pub mod NumeralLaws
pub mod Quotients
pub mod ReadNumbers
pub mod Readers
pub mod RunSizes
pub mod Runs
pub mod WholeTokens
mod WorkedTexts
