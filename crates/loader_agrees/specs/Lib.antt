pub mod Agrees
pub mod StepsOnce
pub mod Acts
pub mod Checks
pub mod laws
