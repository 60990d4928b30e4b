-- Definitions that functions inside the crate cite, and no public contract.
pub mod Axis
pub mod Count
pub mod Numbers
pub mod Reach
pub mod Touched
