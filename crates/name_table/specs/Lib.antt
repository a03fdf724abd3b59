pub mod Constants
pub mod Messages
pub mod Rows
pub mod Tables
