-- The lines of a source after expansion, as text (this project's own form).
use Rattle.std.specs.Prelude.{◌≡◌, ℕ, List, ◌++◌, codes, flat_map}
use Rattle.omf_base.specs.Digits.{decimal}
use Rattle.omf_base.specs.Lines.{line}
use Rattle.orca_meaning.specs.Line.{Line}
use Rattle.macro_meaning.specs.Expansion.{IsExpanded}

-- a line: its file, 0 for the source and from 1 for a macro file, its number there, and its bytes
unfoldable pub line_text : Line → List ℕ
line_text l = line (decimal l.file ++ codes " " ++ decimal l.number ++ codes " " ++ l.text)

-- the source expands with its macro files, and this is the text of its lines
pub record IsTextOf (source : List ℕ) (macros : List (List ℕ)) (text : List ℕ) : Type 0 where
  pub lines : List Line
  pub expanded : IsExpanded source macros lines
  pub is : text ≡ flat_map line_text lines
