pub mod FileLaws
pub mod OrderLaws
pub mod RecordLaws
pub mod MomentLaws
pub mod StandingLaws
pub mod CrashLaws
