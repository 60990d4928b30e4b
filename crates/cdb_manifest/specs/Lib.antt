pub mod Records
pub mod Entries
pub mod Decoding
pub mod Places
pub mod Lengths
pub mod inside
