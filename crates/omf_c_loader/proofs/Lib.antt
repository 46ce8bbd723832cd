-- Lemmas of the loader for C.
pub mod Values
pub mod Finding
