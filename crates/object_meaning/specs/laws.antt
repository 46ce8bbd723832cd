pub mod Steps
pub mod TreeInLaws
pub mod RunLaws
