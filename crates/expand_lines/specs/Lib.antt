pub mod LinesText
