pub mod ReadBack
pub mod Formulas
pub mod Parts
pub mod Pages
pub mod laws
