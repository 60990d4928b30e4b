-- Definitions that functions inside the crate cite, and no public contract.
pub mod LookUps
pub mod Making
pub mod Needs
pub mod Older
pub mod Planning
pub mod TileFiles
pub mod Windows
