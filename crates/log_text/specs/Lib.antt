pub mod Endings
pub mod Ends
pub mod Entries
pub mod Frames
pub mod Logs
pub mod Passing
pub mod Summaries
