pub mod Rasters
pub mod ReadLaws
pub mod Samples
pub mod SizeLaws
pub mod inside
