pub mod MatrixLemmas
