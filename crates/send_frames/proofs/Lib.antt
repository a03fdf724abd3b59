pub mod Counting
pub mod Ledger
pub mod Maps
pub mod Once
pub mod Shown
pub mod Above
