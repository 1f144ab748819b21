pub mod Pictures
pub mod Slices
pub mod Bands
pub mod Cameras
pub mod Greys
pub mod Views
pub mod Laws
