pub mod MakeLaws
pub mod BoxLaws
pub mod FewTiles
pub mod LoadLaws
pub mod SumLaws
pub mod ListLaws
pub mod OneLaws
