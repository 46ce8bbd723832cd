pub mod Steps
pub mod Listing
