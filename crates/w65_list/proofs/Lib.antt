pub mod RunLaws
pub mod KeptLaws
pub mod Gives
pub mod RecordRuns
pub mod FrontLaws
pub mod SourceLaws
