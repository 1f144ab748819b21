pub mod GridShape
pub mod GridLimits
pub mod Boxes
