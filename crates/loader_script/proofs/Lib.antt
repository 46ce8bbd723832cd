pub mod Transcripts
pub mod UnderWay
