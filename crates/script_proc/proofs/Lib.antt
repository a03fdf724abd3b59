pub mod Following
pub mod ItemLaws
pub mod Lasts
pub mod Programming
pub mod StandLaws
pub mod TurnLaws
pub mod WorkerLaws
pub mod Workings
