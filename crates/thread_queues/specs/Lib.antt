pub mod Changes
pub mod Deliveries
pub mod Queues
