pub mod ListLaws
pub mod EntryLaws
pub mod FieldLaws
pub mod PlaceLaws
pub mod DecodingLaws
pub mod HeadFileLaws
pub mod PublicationLaws
pub mod LengthLaws
