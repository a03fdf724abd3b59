-- Worked rows of destructions, each by computing.
pub mod OwnedTwice
pub mod KinAcrossOwners
pub mod ParentInsideChild
