-- What C sees of first faults and load files, and what a call on an open load file answers.
pub mod Causes
pub mod Faults
pub mod Handed
pub mod Views
pub mod Opened
pub mod Held
