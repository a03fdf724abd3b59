pub mod Items
pub mod Programs
pub mod Turns
pub mod Workers
pub mod Works
