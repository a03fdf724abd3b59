pub mod Logs
pub mod Objects
pub mod Texts
