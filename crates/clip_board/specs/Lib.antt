pub mod Boards
pub mod Clipboards
pub mod Laws
pub mod Journal
pub mod Traces
