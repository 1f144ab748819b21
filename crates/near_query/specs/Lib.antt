pub mod Distances
pub mod Faults
pub mod Frontiers
pub mod Halves
pub mod Laws
pub mod Nearest
pub mod Nodes
pub mod Queues
