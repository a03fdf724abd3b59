pub mod EntryTexts
pub mod FrameTexts
pub mod Lengths
pub mod NoName
pub mod Passed
