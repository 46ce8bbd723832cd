pub mod Draws
pub mod Object
pub mod LinkedLaws
pub mod laws
