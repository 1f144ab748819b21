pub mod Answers
pub mod Faults
pub mod Hitting
pub mod Lanes
pub mod Octants
pub mod Stays
pub mod Steps
pub mod Walks
