mod Runs
mod Completes
pub mod Libraries
pub mod Sources
