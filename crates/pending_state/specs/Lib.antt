pub mod Changes
pub mod Meanings
pub mod Pending
