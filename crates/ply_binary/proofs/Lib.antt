pub mod BodySteps
pub mod HeldBytes
pub mod LineWords
pub mod HeaderSteps
pub mod SourceMoves
pub mod PlainTexts
pub mod BodyEnds
pub mod Readings
