pub mod GivenWords
pub mod Queued
pub mod Pushed
pub mod Fronts
pub mod PushedFiles
