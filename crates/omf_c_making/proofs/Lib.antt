-- Lemmas of what is made of files for C.
pub mod Faults
pub mod Files
