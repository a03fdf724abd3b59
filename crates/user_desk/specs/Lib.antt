pub mod Journal
pub mod Beginnings
pub mod Desks
pub mod Tellers
