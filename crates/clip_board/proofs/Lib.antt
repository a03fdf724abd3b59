pub mod Steps
pub mod Answered
pub mod GetLaws
pub mod Logs
pub mod Places
pub mod PointLaws
pub mod TraceLaws
