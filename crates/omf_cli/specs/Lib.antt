pub mod Steps
pub mod LinkCauses
pub mod Link
pub mod Stress
pub mod Tool
pub mod Laws
pub mod Loads
pub mod Headline
