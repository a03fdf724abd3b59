pub mod LookUps
pub mod Places
