pub mod Changes
pub mod TimerLists
