pub mod GroupTables
pub mod Steps
