pub mod MapText
pub mod Standing
pub mod Listings
