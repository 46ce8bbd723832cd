pub mod Words
pub mod PokeLaws
pub mod StandsLaws
pub mod PutLaws
pub mod OnceLaws
pub mod ScriptLaws
pub mod AllocLaws
pub mod ScriptCommandLaws
