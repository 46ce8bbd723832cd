-- What the calls that make something of files owe, and how they report faults.
pub mod Faults
pub mod Making
