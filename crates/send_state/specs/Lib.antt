pub mod Parts
pub mod Standing
pub mod Tallies
pub mod Stories
