pub mod Book
pub mod Items
