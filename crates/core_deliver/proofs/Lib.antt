pub mod Admitted
pub mod DueTimers
mod Reading
mod Searching
