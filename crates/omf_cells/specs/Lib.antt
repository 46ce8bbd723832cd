pub mod Load
pub mod Laws
pub mod Whole
pub mod Ends
pub mod SpacedLaws
