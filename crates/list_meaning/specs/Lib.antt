pub mod Listed
pub mod Listing
pub mod Answer
pub mod Worked
pub mod laws
