pub mod Cursors
pub mod Finding
pub mod FirstInput
pub mod Kept
pub mod Needs
pub mod Steps
