pub mod MomentLaws
pub mod StateLaws
pub mod WholeLaws
