pub mod Agrees
pub mod Openings
pub mod Packing
pub mod Replies
pub mod Sides
pub mod Worlds
