pub mod Flat
pub mod Given
pub mod ListingLaws
pub mod laws
