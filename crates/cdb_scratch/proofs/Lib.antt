pub mod ValueLaws
pub mod PlaceLaws
pub mod CellLaws
pub mod FrameLaws
pub mod ReachedLaws
