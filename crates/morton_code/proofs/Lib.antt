pub mod Coordinates
pub mod Sides
pub mod Heights
pub mod Children
pub mod RunsLemmas
pub mod Blocks
pub mod Spreads
