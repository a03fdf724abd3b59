pub mod Replays
pub mod Workers
