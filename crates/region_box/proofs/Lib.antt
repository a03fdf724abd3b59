pub mod Counts
pub mod Points
pub mod Boxes
pub mod Listed
pub mod Agreement
pub mod Once
pub mod Order
