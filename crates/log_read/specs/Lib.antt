pub mod Grammar
pub mod Judging
pub mod Limits
pub mod Logs
pub mod Reading
pub mod Reasons
pub mod Refusals
pub mod Words
