pub mod ImageLaws
pub mod FileLaws
pub mod PathLaws
pub mod LoadLaws
pub mod WalkLaws
pub mod WalkedLaws
pub mod ExportLaws
pub mod EmitLaws
