pub mod Ends
pub mod Gone
pub mod LowestTerms
pub mod Order
pub mod TimeOrder
pub mod Whereabouts
mod WorkedHits
mod WorkedTimes
