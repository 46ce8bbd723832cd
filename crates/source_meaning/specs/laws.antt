pub mod LinesShort
pub mod ObjectFileProofs
pub mod ObjectProofs
pub mod Unanswered
