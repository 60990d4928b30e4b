pub mod WrittenHead
pub mod WrittenTile
