pub mod Clocks
pub mod Codes
pub mod Numbers
pub mod PixelSets
pub mod Rects
