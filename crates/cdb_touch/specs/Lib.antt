pub mod Touched
pub mod inside
