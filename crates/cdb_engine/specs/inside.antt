-- Definitions that functions inside the crate cite, and no public contract.
pub mod Filling
pub mod Populating
pub mod Store
pub mod StoreAnswers
pub mod Words
