pub mod CallWords
pub mod Differing
pub mod Loops
pub mod NoRuns
pub mod OnePlace
pub mod Pasts
pub mod Steps
pub mod Telling
