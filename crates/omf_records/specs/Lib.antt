pub mod View
pub mod Segments
pub mod Laws
pub mod WalkLaws
pub mod SegmentLaws
