pub mod Once
pub mod Linking
mod Passing
mod Forms
pub mod ReadBack
pub mod Begins
mod Stressing
