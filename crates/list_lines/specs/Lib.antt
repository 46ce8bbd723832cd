pub mod OutputView
pub mod Kept
pub mod LineView
pub mod NamesView
pub mod FormulaView
