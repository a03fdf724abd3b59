pub mod Bands
pub mod Columns
pub mod Pieces
pub mod Regions
