pub mod TableLaws
pub mod TurnLaws
pub mod StateLaws
