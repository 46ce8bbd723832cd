-- Macro definitions (ORCA/M reference manual, "Macro definitions").
use Rattle.std.specs.Prelude.{ℕ, ◌+◌, Bool, List, [], ◌∷◌, ◌++◌, length, map, codes, bytes_eq, Option, Some, None, option_map, if◌then◌else◌}
use Rattle.omf_format.specs.Ascii as ascii
use Rattle.macro_meaning.specs.declared.faults.MacroCause.{MacroCause}
use Rattle.macro_meaning.specs.declared.faults.MacroCause.TheVariants.{Unclosed, BadArguments}
use Rattle.orca_meaning.specs.Characters.{folded}
use Rattle.orca_meaning.specs.Token.{name_at}
use Rattle.orca_meaning.specs.Line.{Line, part, is_comment, three_fields}
use Rattle.macro_meaning.specs.Pieces.{pieces}
use Rattle.macro_meaning.specs.Statements.{whole_match, symbol_name}

-- ---- the lines of a file

-- the operation of a line has this spelling, in upper or lower case
abbrev pub operation_is : List ℕ → Line → Bool
operation_is spelling line = bytes_eq (folded (part line.text line.fields.operation)) spelling

-- a part of a file: a line outside definitions; a definition, with its MACRO line, the lines in it and its MEND line; or
-- one that lacks its MEND
pub data DefinitionPart : Type 0 where
  Plain : (line : Line) → DefinitionPart
  Closed : (begins : Line) (lines : List Line) (ends : Line) → DefinitionPart
  Open : (begins : Line) (lines : List Line) → DefinitionPart

-- the definition that is open: its MACRO line and the lines in it so far
abbrev pub Begun : Type 0
Begun = Option (Line × List Line)

-- The parts of a file in order. A MACRO line begins a definition, and the first MEND after it ends it.
unfoldable pub parts_of : Begun → List Line → List DefinitionPart
parts_of None [] = []
parts_of (Some (begins, inner)) [] = Open begins inner ∷ []
parts_of None (line ∷ lines) =
    if operation_is (codes "MACRO") line then parts_of (Some (line, [])) lines else Plain line ∷ parts_of None lines
parts_of (Some (begins, inner)) (line ∷ lines) =
    if operation_is (codes "MEND") line then Closed begins inner line ∷ parts_of None lines
    else parts_of (Some (begins, inner ++ line ∷ [])) lines

-- ---- model lines

-- what a model line says: the macro's name, its label parameter and its parameters, all in upper case
pub record Model : Type 0 where
  pub name : List ℕ
  pub label : Option (List ℕ)
  pub parameters : List (List ℕ)

-- parameters `&NAME`
unfoldable pub names_of : List (List ℕ) → Option (List (List ℕ))
names_of [] = Some []
names_of (piece ∷ pieces) = elim (symbol_name piece) [ None ↦ None | Some name ↦ elim (names_of pieces) [ None ↦ None | Some names ↦ Some (name ∷ names) ] ]

-- the parameters of an operand, separated by commas; none where there is no operand
abbrev pub parameters_of : List ℕ → Option (List (List ℕ))
parameters_of [] = Some []
parameters_of (byte ∷ following) = names_of (pieces ascii.comma (byte ∷ following))

-- a label parameter, which may be missing
abbrev pub label_of : List ℕ → Option (Option (List ℕ))
label_of [] = Some None
label_of (byte ∷ following) = elim (symbol_name (byte ∷ following)) [ None ↦ None | Some name ↦ Some (Some name) ]

-- a model line: a label parameter `&NAME` or none, a name as operation, and parameters `&NAME` separated by commas
unfoldable pub model_of : List ℕ → Option Model
model_of text =
    let fields = three_fields text in
    if is_comment text then None else elim (whole_match (name_at (part text fields.operation))) [
      | None ↦ None
      | Some name ↦ elim (label_of (part text fields.label)) [
        | None ↦ None
        | Some label ↦ elim (parameters_of (part text fields.operand)) [ None ↦ None | Some parameters ↦ Some (record { name = name; label = label; parameters = parameters }) ]
      ]
    ]

-- ---- definitions

-- Lines that are visited one after another, and how many of them, from the first on, a branch can go to: of a macro, the
-- lines after the model line, and then its MEND line, to which no branch goes.
pub record MacroBody : Type 0 where
  pub lines : List Line
  pub reach : ℕ

-- a macro: it is visible to expansions that began after this line of the source, and to all where that is 0
pub record MacroDefinition : Type 0 where
  pub model : Model
  pub visible_after : ℕ
  pub body : MacroBody

-- the definition with these lines between MACRO and MEND, of which the first is the model line, and with this MEND line; it is
-- visible to expansions that began after this line of the source
abbrev pub definition_from : ℕ → List Line → Line → Option MacroDefinition
definition_from visible_after [] ends = None
definition_from visible_after (model ∷ inner) ends = elim (model_of model.text) [
  | None ↦ None
  | Some read ↦ Some (record { model = read; visible_after = visible_after; body = record { lines = inner ++ ends ∷ []; reach = length inner } })
]

-- a definition in the source is visible after its MACRO line, and one in a macro file everywhere
abbrev pub definition_of : Bool → DefinitionPart → Option MacroDefinition
definition_of in_source (Plain line) = None
definition_of in_source (Closed begins inner ends) = definition_from (if in_source then begins.number else 0) inner ends
definition_of in_source (Open begins inner) = None

-- a list of one or of none
abbrev pub list_of_option : {A : Type 0} → Option A → List A
list_of_option None = []
list_of_option (Some a) = a ∷ []

-- the definitions among the parts of a file, in order
unfoldable pub definitions_in : Bool → List DefinitionPart → List MacroDefinition
definitions_in in_source [] = []
definitions_in in_source (p ∷ ps) = list_of_option (definition_of in_source p) ++ definitions_in in_source ps

-- the lines of the source that are visited: of a definition its MACRO line alone
abbrev pub source_line : DefinitionPart → Line
source_line (Plain line) = line
source_line (Closed begins inner ends) = begins
source_line (Open begins inner) = begins

-- the source's lines that are visited; a branch can go to each
abbrev pub source_body : List DefinitionPart → MacroBody
source_body ps = record { lines = map source_line ps; reach = length ps }

-- ---- what is wrong with definitions

-- no MEND, at the MACRO line; else a model line that isn't one, at that line
abbrev pub part_fault : DefinitionPart → Option (Line × MacroCause)
part_fault (Plain line) = None
part_fault (Closed begins [] ends) = Some (ends, BadArguments)
part_fault (Closed begins (model ∷ inner) ends) = elim (model_of model.text) [ None ↦ Some (model, BadArguments) | Some read ↦ None ]
part_fault (Open begins inner) = Some (begins, Unclosed)

-- the first, or the other where there is none
abbrev pub or_else : {A : Type 0} → Option A → Option A → Option A
or_else (Some a) other = Some a
or_else None other = other

-- the fault of the first part that has one
unfoldable pub first_part_fault : List DefinitionPart → Option (Line × MacroCause)
first_part_fault [] = None
first_part_fault (p ∷ ps) = or_else (part_fault p) (first_part_fault ps)

-- ---- which definition a name means

-- the place of the first definition of a name
unfoldable pub first_named : List ℕ → List MacroDefinition → Option ℕ
first_named name [] = None
first_named name (d ∷ ds) = if bytes_eq d.model.name name then Some 0 else option_map (λ place. place + 1) (first_named name ds)
