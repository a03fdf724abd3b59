pub mod EntryLines
pub mod FrameLines
pub mod LineTexts
pub mod NameTexts
pub mod Utf8Texts
