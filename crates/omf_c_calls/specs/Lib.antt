-- What each call for the loader of C did, and what it answered.
pub mod Answers
pub mod Calls
