pub mod Colours
pub mod Destructions
pub mod Kept
pub mod Looks
pub mod Ranks
pub mod Stands
pub mod Words
