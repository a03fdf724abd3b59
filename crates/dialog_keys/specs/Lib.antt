pub mod Keys
pub mod Controls
pub mod Traces
pub mod States
pub mod Walks
