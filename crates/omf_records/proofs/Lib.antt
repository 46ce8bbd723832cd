pub mod SegmentFaults
pub mod Runs
pub mod Lists
pub mod Spelled
pub mod Formed
