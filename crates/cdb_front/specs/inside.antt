-- Definitions that functions inside the crate cite, and no public contract.
pub mod AnswerMeanings
pub mod Checking
pub mod Devices
pub mod Failures
pub mod Generating
pub mod Hearing
pub mod RunProgress
pub mod RunReading
pub mod Stepping
