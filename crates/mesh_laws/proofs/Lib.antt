pub mod NextTokens
pub mod NumberTokens
pub mod PlainLines
pub mod PlainHeaders
pub mod PlainRows
pub mod PlainBodies
pub mod PlainTexts
