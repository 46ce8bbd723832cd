pub mod TextLaws
pub mod ListLaws
pub mod SymbolLaws
pub mod MapLaws
pub mod RuntimeLaws
pub mod ExportLaws
