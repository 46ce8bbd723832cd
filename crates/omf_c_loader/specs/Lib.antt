-- What the calls of the loader for C owe.
pub mod Store
pub mod Refusals
pub mod Held
