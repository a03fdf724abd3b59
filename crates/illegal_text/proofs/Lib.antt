pub mod Endings
pub mod Newest
