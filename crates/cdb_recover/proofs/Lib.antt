pub mod HeadLaws
pub mod Removals
pub mod Rounds
pub mod Recoveries
