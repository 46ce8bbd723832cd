pub mod Files
pub mod Inputs
pub mod Commands
pub mod laws
