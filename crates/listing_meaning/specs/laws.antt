pub mod SeenProofs
pub mod GivenProofs
pub mod RowProofs
pub mod CellProofs
