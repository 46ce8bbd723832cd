-- Starts of lines whose label and operation are known.
use Rattle.std.specs.Prelude.{◌≡◌, ◌≤◌, ℕ, List, [], ◌++◌, take, drop, length, false, Option, Some, None}
use Rattle.macro_meaning.specs.Effect.{without_sequence_symbol, operation_or_anop}
use Rattle.orca_meaning.specs.Characters.{folded}
use Rattle.orca_meaning.specs.Line.{part, three_fields, is_comment}
use Rattle.orca_symbols.specs.Template.{text_before}
use Rattle.orca_macro.specs.declared.head.LineHead.{LineHead}
use Rattle.orca_symbols.specs.declared.template.TemplatePart.{TemplatePart}

-- a text after its sequence symbol has this label and this operation
pub record HasFields (h : LineHead) (text : List ℕ) : Type 0 where
  pub within : h.label ≤ length text
  pub label : part text (three_fields text).label ≡ take h.label text
  pub end : (three_fields text).operation.to ≡ h.end
  pub operation : folded (part text (three_fields text).operation) ≡ h.operation
  pub statement : operation_or_anop (part text (three_fields text).operation) ≡ h.statement

-- a text begins so
pub record HasHead (h : LineHead) (text : List ℕ) : Type 0 where
  pub within : h.sequence ≤ length text
  pub cuts : without_sequence_symbol text ≡ drop h.sequence text
  pub other : is_comment (drop h.sequence text) ≡ false
  pub fields : HasFields h (drop h.sequence text)

-- each text that begins with these bytes begins so
pub record IsHead (h : LineHead) (front : List ℕ) : Type 0 where
  pub is : (following : List ℕ) → HasHead h (front ++ following)

-- what is known of the start of a line, where something is
abbrev pub MayHaveHead : Option LineHead → List ℕ → Type 0
MayHaveHead None text = Unit {0}
MayHaveHead (Some h) text = HasHead h text

-- every text that the parts make begins with this head, where there is one
pub record BeginsSo (parts : List TemplatePart) (head : Option LineHead) : Type 0 where
  pub is : (text_of : List ℕ → Option (List ℕ)) (text : List ℕ) → text_before text_of parts (Some []) ≡ Some text → MayHaveHead head text
