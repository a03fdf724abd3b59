pub mod Memory
pub mod Outside
pub mod Standard
pub mod Text
