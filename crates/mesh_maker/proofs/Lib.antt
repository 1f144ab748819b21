pub mod MadeLines
pub mod GivenBytes
pub mod MadeSizes
pub mod QuadRows
pub mod MadeTexts
pub mod MadeCounts
