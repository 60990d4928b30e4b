pub mod CacheLaws
pub mod CurrentLaws
pub mod Cuts
pub mod FlagLaws
pub mod OpenLaws
pub mod SlotLaws
