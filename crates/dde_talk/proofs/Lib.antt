pub mod ApartLaws
pub mod HearingLaws
pub mod HoldsLaws
pub mod ItemLaws
pub mod PackingLaws
pub mod ReplyLaws
pub mod TellsLaws
pub mod WorldLaws
