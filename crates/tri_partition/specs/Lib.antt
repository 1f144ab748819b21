pub mod Laws
pub mod PartStreams
pub mod Partitioning
pub mod Reading
pub mod PartRanges
