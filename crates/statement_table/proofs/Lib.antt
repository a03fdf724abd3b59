pub mod StatementLaws
pub mod CompoundLaws
