pub mod Kept
pub mod Reading
pub mod TimerNeeds
pub mod TimerSteps
