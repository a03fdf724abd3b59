pub mod Orders
pub mod Steps
pub mod Parts
pub mod Marks
pub mod Searches
pub mod Reports
pub mod Texts
