pub mod Finding
pub mod ValueEquality
