pub mod KinLists
pub mod Outcomes
pub mod QueueLists
pub mod ThreadChanges
