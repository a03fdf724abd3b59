pub mod Joined
pub mod Owners
pub mod Shares
pub mod Shown
