pub mod Counts
pub mod Passing
pub mod Reads
pub mod Threads
