pub mod Seen
pub mod Given
pub mod Rows
pub mod Listing
pub mod ListingLaws
pub mod laws
