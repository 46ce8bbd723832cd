pub mod Store
pub mod Rounds
pub mod Work
pub mod Answering
