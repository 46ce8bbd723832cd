pub mod RunView
pub mod BeforeView
pub mod Giving
pub mod FrontView
pub mod SourceView
