pub mod Table
pub mod States
