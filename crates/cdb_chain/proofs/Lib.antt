pub mod FindLaws
pub mod FoundLaws
pub mod LookLaws
pub mod OpeningLaws
pub mod PlaceLaws
pub mod ReachedLaws
pub mod StoreLaws
