-- Lemmas of open load files.
pub mod Faults
pub mod Lists
pub mod Placed
pub mod Runtimes
pub mod Values
