pub mod Object
pub mod ObjectLaws
pub mod laws
