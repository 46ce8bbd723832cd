pub mod ReadTerms
pub mod Front
pub mod Quotient
pub mod TreeRuns
pub mod TermRuns
pub mod Evaluating
