pub mod Carrying
pub mod Changes
pub mod LookUps
pub mod Places
