pub mod Faults
pub mod Untold
