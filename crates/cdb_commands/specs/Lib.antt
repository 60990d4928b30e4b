pub mod Left
pub mod Meaning
pub mod Wording
pub mod Settled
pub mod OptionWords
pub mod OptionCommand
pub mod Given
pub mod Options
