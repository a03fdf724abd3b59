pub mod Logs
pub mod Seats
pub mod Waits
pub mod Tellers
