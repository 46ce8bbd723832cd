pub mod FitLaws
pub mod ContentLaws
pub mod ContentBytes
pub mod ZerosAfter
pub mod OutsideLengths
pub mod PutLaws
pub mod RecordLaws
