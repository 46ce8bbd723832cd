pub mod Outers
pub mod Sets
pub mod Forms
pub mod After
pub mod PartLaws
pub mod RowLaws
pub mod RowLoops
pub mod ReadLaws
pub mod LayoutLaws
pub mod LayoutReads
pub mod MemberLaws
pub mod FileLaws
pub mod SizeLaws
pub mod MovedLaws
pub mod BorneLaws
pub mod MadeLaws
pub mod RowCounts
mod MadeOnce
