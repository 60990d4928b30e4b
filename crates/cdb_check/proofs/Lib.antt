pub mod ExpectedLaws
pub mod KeptLaws
pub mod KeptTiles
pub mod LoopLaws
pub mod MakingLaws
pub mod RecordsOf
pub mod SourceLaws
pub mod TouchLaws
