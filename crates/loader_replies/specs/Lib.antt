pub mod Replied
pub mod Answered
