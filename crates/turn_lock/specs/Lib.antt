pub mod Counting
pub mod Histories
pub mod Views
pub mod Rule
pub mod Seats
