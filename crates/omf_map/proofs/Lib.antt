pub mod Short
pub mod Forms
pub mod Passing
