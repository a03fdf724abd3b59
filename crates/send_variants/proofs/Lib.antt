pub mod Chains
pub mod Counts
pub mod Entries
pub mod Joins
pub mod Named
pub mod Steps
pub mod Tables
