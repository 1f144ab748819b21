pub mod Costs
mod FirstHits
mod MetCells
mod NextSteps
mod NodeStays
mod Orders
mod Planes
mod Readiness
mod Roots
mod Siblings
mod Ticks
mod Treading
mod UnderWay
mod Ways
mod WorkedWalks
