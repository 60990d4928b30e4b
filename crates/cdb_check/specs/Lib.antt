pub mod Expected
pub mod Kept
pub mod Laws
pub mod Outcome
pub mod Rooms
pub mod inside
