pub mod TableRuns
pub mod PathSearch
pub mod PathRuns
pub mod PathSegments
pub mod ExportWalks
pub mod TableSearch
pub mod EntryNumbers
