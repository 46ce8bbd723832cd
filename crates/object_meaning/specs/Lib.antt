pub mod Sizes
pub mod Terms
pub mod Defines
pub mod laws
