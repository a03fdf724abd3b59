pub mod Carries
pub mod Edges
pub mod Rows
