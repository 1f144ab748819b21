pub mod Counts
pub mod Cursors
pub mod Stops
pub mod Verdicts
pub mod Walks
