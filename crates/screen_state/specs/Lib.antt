pub mod Carried
pub mod Carrying
pub mod Entries
pub mod Owned
pub mod Parts
pub mod Screens
pub mod Shown
pub mod Walks
