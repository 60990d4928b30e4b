pub mod LookUps
pub mod Opening
pub mod Publications
pub mod Versions
pub mod inside
