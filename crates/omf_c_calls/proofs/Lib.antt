-- Lemmas of the calls for C.
pub mod Answering
