pub mod KnownLaws
pub mod Refusals
pub mod PartWalks
pub mod PartGaps
pub mod JudgeLaws
pub mod ContentLaws
pub mod EntryLists
pub mod SegmentLaws
