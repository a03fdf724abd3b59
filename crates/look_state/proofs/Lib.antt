pub mod KeptPixels
pub mod LookSteps
pub mod NewPixels
pub mod WindowPasts
