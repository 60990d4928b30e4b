pub mod Leftovers
pub mod Crash
pub mod Plan
pub mod Recovery
pub mod Laws
pub mod StepLaws
