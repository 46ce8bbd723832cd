pub mod WrittenParts
pub mod Joined
