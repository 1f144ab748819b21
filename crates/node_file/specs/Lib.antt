pub mod FileView
pub mod Told
pub mod Waiting
pub mod Writing
pub mod Framing
pub mod Stored
pub mod Loading
pub mod Viewing
