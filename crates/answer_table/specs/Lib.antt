pub mod Answers
pub mod Drawing
pub mod Messages
pub mod Plain
pub mod Sends
pub mod Splits
