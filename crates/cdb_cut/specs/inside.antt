-- Definitions that functions inside the crate cite, and no public contract.
pub mod Blend
pub mod Copied
pub mod Painted
pub mod Parts
