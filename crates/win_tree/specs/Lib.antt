pub mod Kin
pub mod Plans
