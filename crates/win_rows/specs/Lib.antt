pub mod Destruction
pub mod Index
pub mod Links
pub mod Parts
pub mod Tours
pub mod Windows
