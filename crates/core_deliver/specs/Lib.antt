pub mod Admission
pub mod Groups
pub mod Reads
pub mod Searches
