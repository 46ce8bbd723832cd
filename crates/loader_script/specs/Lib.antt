pub mod Run
pub mod Running
