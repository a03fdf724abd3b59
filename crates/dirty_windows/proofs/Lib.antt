pub mod Carrying
pub mod Cutting
pub mod Exposing
pub mod Kept
pub mod Lists
pub mod Settling
