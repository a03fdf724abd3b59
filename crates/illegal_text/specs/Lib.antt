pub mod EndingLines
pub mod Texts
