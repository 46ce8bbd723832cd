pub mod PartLaws
pub mod FormulaLaws
pub mod WrittenNames
pub mod NameLaws
pub mod PageLaws
