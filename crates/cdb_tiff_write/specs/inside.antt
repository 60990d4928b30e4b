-- Definitions that functions inside the crate cite, and no public contract.
pub mod Finer
pub mod Older
