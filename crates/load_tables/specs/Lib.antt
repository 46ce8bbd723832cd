pub mod View
pub mod Paths
