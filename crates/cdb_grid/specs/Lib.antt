pub mod Units
pub mod Grid
pub mod Tiles
pub mod Children
pub mod Order
pub mod OrderLaws
pub mod Frames
