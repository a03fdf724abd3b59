pub mod Chains
pub mod Finding
pub mod Indexes
pub mod Newest
mod PlaceLemmas
pub mod Purges
pub mod QueueLemmas
pub mod Walks
