pub mod ControlLaws
pub mod PointLaws
pub mod TraceLaws
pub mod WalkLaws
pub mod WalkSteps
