pub mod Carrying
pub mod Pictures
pub mod Spans
