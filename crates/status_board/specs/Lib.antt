pub mod Lists
pub mod Rule
pub mod Boards
pub mod Owners
