pub mod Joining
pub mod Fronts
pub mod Fields
pub mod Frames
pub mod Loads
pub mod KnownFormats
