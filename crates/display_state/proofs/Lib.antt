pub mod ClassColours
pub mod Drawn
pub mod Followed
pub mod Frames
pub mod Painted
