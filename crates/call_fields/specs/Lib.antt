pub mod Forms
pub mod Messages
pub mod Values
pub mod Words
