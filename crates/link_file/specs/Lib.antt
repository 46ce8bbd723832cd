pub mod Images
pub mod Answers
pub mod Walks
pub mod Paths
pub mod Exported
pub mod Valued
