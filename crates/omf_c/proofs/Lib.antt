-- Lemmas of the library for C.
pub mod Faults
