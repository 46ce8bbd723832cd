pub mod Readings
pub mod Runs
pub mod Completes
mod Numbers
