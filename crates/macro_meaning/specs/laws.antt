pub mod VisitLaws
pub mod ExpansionProofs
pub mod Unanswered
pub mod Steps
