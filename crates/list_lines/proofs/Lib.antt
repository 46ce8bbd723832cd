pub mod Ended
pub mod Written
pub mod Formulas
pub mod NameLaws
pub mod TermLaws
pub mod PartLaws
