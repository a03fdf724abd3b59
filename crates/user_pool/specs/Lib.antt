pub mod InTurn
pub mod Interleavings
pub mod Moves
pub mod Runs
pub mod Seats
pub mod Teams
