pub mod Buffers
pub mod Coordinates
pub mod Planning
pub mod QueuesView
pub mod Rooms
