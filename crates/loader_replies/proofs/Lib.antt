pub mod Words
pub mod OneCommand
pub mod Refusals
pub mod FileReads
pub mod ScriptWords
pub mod Reading
pub mod Loads
