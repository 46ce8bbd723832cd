pub mod NameLaws
pub mod ObjectLaws
pub mod SearchLaws
pub mod ResolvedLaws
pub mod CallLaws
pub mod SizeLaws
pub mod LinkedProofs
