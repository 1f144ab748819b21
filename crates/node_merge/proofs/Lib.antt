mod Below
mod CoarseGrids
mod CoarseNodes
mod CoarsePushes
mod Heads
mod HeldWords
mod MapFiles
mod MergedFaces
mod Numbers
mod OneGrid
mod PieceCells
mod Pieces
pub mod Turns
mod ToMaps
