pub mod Groups
pub mod State
