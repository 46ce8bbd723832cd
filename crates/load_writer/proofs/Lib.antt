pub mod Fronts
pub mod PageTexts
pub mod KeptLaws
pub mod DataLaws
pub mod PlainLaws
pub mod FormLists
