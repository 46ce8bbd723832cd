pub mod Stretches
pub mod Canonical
pub mod Answer
pub mod Kept
pub mod Replaced
pub mod laws
