pub mod Generator
pub mod Sums
pub mod Generated
pub mod Laws
