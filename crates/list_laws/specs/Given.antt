-- What a line of a listing represents: the records that it gives to its segment, the name that it defines, and what it leaves.
use Rattle.std.specs.Prelude.{◌≡◌, ℕ, ◌-◌, Bool, true, false, List, [], ◌∷◌, ◌++◌, length, replicate, Some, None}
use Rattle.byteorder.specs.Endian.{little_bytes}
use Rattle.omf_format.specs.declared.codes.TheConstants.{DIRECTIVE_LABEL, EXPR}
use Rattle.omf_format.specs.Ascii as ascii
use Rattle.omf_format.specs.Expression as expression
use Rattle.omf_format.specs.Expression.{Tree, Leaf, Binary}
use Rattle.omf_format.specs.Header.{HeaderFields}
use Rattle.omf_format.specs.Record as records
use Rattle.omf_format.specs.Record.{Record, End, Const, Align, Org, Space, Using, Strong, Equate, Formula}
use Rattle.orca_meaning.specs.Line.{Line}
use Rattle.orca_meaning.specs.Names.{with_name}
use Rattle.orca_meaning.specs.declared.mnemonics.Mnemonic.{Mnemonic}
use Rattle.orca_meaning.specs.declared.modes.Mode.{Mode}
use Rattle.asm_meaning.specs.declared.directives.Class.{Class}
use Rattle.asm_meaning.specs.declared.directives.Class.TheVariants.{Code, Data}
use Rattle.asm_meaning.specs.declared.directives.Switch.{Switch}
use Rattle.asm_meaning.specs.declared.directives.Switch.TheVariants.{LongA, LongI, Msb}
use Rattle.asm_meaning.specs.Formulas.{expression_text}
use Rattle.asm_meaning.specs.Instruction.{Widths, kind_of, operand_bytes, operand_record, opcode_in}
use Rattle.asm_meaning.specs.Pieces.{place_after}
use Rattle.asm_meaning.specs.State.{State, StartedSegment, Names, header_of, no_names}
use Rattle.list_meaning.specs.Listed.{ListedStatement, NextAlignIs, NextOrg, StartIs, KindIs, SwitchIs, Ds, Aligns, OrgIs, UsingIs, StrongIs, Labels, Equates, Instructs, Bytes, WeakIs, FormulaIs, EndIs, Wanted, None', Number, Banks, Label, Moved}

-- ---- records

-- the expression of an operand with a name: the name, maybe with a number that is added to it or taken from it
abbrev pub code_of : Bool → ℕ
code_of true = 0x01
code_of false = 0x02

-- that expression; the other operands are constant bytes
abbrev pub tree_of : Wanted → Tree
tree_of None' = Leaf (expression.Constant 0)
tree_of (Number bytes n) = Leaf (expression.Constant n)
tree_of (Banks source destination) = Leaf (expression.Constant 0)
tree_of (Label name) = Leaf (expression.Named 0x83 name)
tree_of (Moved name adds n) = Binary (code_of adds) (Leaf (expression.Named 0x83 name)) (Leaf (expression.Constant n))

-- the opcode, and the record of an operand with a name
abbrev pub held_records : Widths → ℕ → Mnemonic → Mode → Wanted → List Record
held_records w opcode mnemonic mode operand =
    Const (opcode ∷ []) ∷ operand_record mnemonic (kind_of mode) (operand_bytes w mnemonic mode) (tree_of operand) ∷ []

-- an instruction whose operand is a number is constant bytes
abbrev pub instruction_records : Widths → Mnemonic → Mode → Wanted → List Record
instruction_records w mnemonic mode None' = Const (opcode_in mnemonic mode ∷ []) ∷ []
instruction_records w mnemonic mode (Number bytes n) = Const (opcode_in mnemonic mode ∷ little_bytes bytes n) ∷ []
instruction_records w mnemonic mode (Banks source destination) = Const (opcode_in mnemonic mode ∷ destination ∷ source ∷ []) ∷ []
instruction_records w mnemonic mode (Label name) = held_records w (opcode_in mnemonic mode) mnemonic mode (Label name)
instruction_records w mnemonic mode (Moved name adds n) = held_records w (opcode_in mnemonic mode) mnemonic mode (Moved name adds n)

-- the records that a line represents, at these widths
abbrev pub records_said : Widths → ListedStatement → List Record
records_said w (Ds n) = Space n ∷ []
records_said w (Aligns n) = Align n ∷ []
records_said w (OrgIs n) = Org n ∷ []
records_said w (UsingIs name) = Using name ∷ []
records_said w (StrongIs name) = Strong name ∷ []
records_said w (Labels global name) = records.Label global name 0 DIRECTIVE_LABEL 0 ∷ []
records_said w (Equates global name n) = Equate global name 0 DIRECTIVE_LABEL 0 (expression_text (Leaf (expression.Constant n))) ∷ []
records_said w (Instructs mnemonic mode operand) = instruction_records w mnemonic mode operand
records_said w (Bytes bytes) = Const bytes ∷ []
records_said w (WeakIs name) = Formula EXPR 2 0 (expression_text (Leaf (expression.Named 0x82 name))) ∷ []
records_said w (FormulaIs count tree) = Formula EXPR count 0 (expression_text tree) ∷ []
records_said w EndIs = End ∷ []
records_said _ _ = []

-- ---- names, widths and the header

-- the name that a line defines; EQU and GEQU define it as a constant
abbrev pub name_said : ListedStatement → List (List ℕ)
name_said (Labels global name) = name ∷ []
name_said (Equates global name n) = name ∷ []
name_said _ = []

-- the names after a line, of which an equate's has its value
abbrev pub names_said : ListedStatement → Names → Names
names_said (Labels global name) names = with_name name None names
names_said (Equates global name n) names = with_name name (Some n) names
names_said _ names = names

-- LONGA and LONGI set a width
abbrev pub with_width_set : Switch → Bool → Widths → Widths
with_width_set LongA on w = record w { long_a = on }
with_width_set LongI on w = record w { long_i = on }
with_width_set Msb on w = w

-- the widths after a line
abbrev pub widths_said : ListedStatement → Widths → Widths
widths_said (SwitchIs switch on) w = with_width_set switch on w
widths_said _ w = w

-- MSB after a line
abbrev pub msb_said : ListedStatement → Bool → Bool
msb_said (SwitchIs Msb on) msb = on
msb_said _ msb = msb

-- KIND sets the header's
abbrev pub header_said : ListedStatement → HeaderFields → HeaderFields
header_said (KindIs n) header = record header { kind = n }
header_said _ header = header

-- ---- what a line inside a segment leaves

-- the open segment has its records, its name and its header's field, and nothing else is changed but the widths and MSB
pub record Leaves (said : ListedStatement) (state : State) (s : StartedSegment) (next : State) : Type 0 where
  pub after : StartedSegment
  pub here : next.segment ≡ Some after
  pub start_line : after.start_line ≡ s.start_line
  pub class : after.class ≡ s.class
  pub header : after.header ≡ header_said said s.header
  pub names : after.names ≡ names_said said s.names
  pub body : after.body ≡ s.body ++ records_said state.widths said
  pub widths : next.widths ≡ widths_said said state.widths
  pub msb : next.msb ≡ msb_said said state.msb
  pub outside : next.outside ≡ state.outside
  pub org : next.org ≡ state.org
  pub align : next.align ≡ state.align
  pub front : next.front ≡ state.front
  pub ended : next.ended ≡ state.ended

-- ---- what any line leaves

-- START is for code, and DATA for data
abbrev pub class_of : Bool → Class
class_of true = Data
class_of false = Code

-- START or DATA, on this line, opens a segment with the header of its class, this name and this LOADNAME, in which nothing but the name is
-- defined. It takes the ORG, the ALIGN and the records that wait for it, so that none are left, and nothing else is changed.
pub record Opens (line : Line) (crosses : Bool) (name load_name : List ℕ) (state next : State) : Type 0 where
  pub after : StartedSegment
  pub was : state.segment ≡ None
  pub next_is : next ≡ record state { org = 0; align = 0; front = []; segment = Some after }
  pub start_line : after.start_line ≡ line
  pub class : after.class ≡ class_of crosses
  pub header : after.header ≡ header_of state (class_of crosses) name (load_name ++ replicate (10 - length load_name) ascii.space)
  pub names : after.names ≡ with_name name None no_names
  pub body : after.body ≡ state.front

-- END ends it, LENGTH is the number of its cells, and nothing else is changed
pub record Closes (state next : State) : Type 0 where
  pub s : StartedSegment
  pub was : state.segment ≡ Some s
  pub next_is : next ≡ record state {
    segment = None;
    ended = state.ended ++ record { header = record s.header { length = place_after 0 (s.body ++ End ∷ []) }; body = s.body ++ End ∷ [] } ∷ [];
  }

-- what a line was written for: ALIGN and ORG before START wait for the next segment, and all lines after it give to the open one
abbrev pub IsLeft : Line → ListedStatement → State → State → Type 0
IsLeft line (NextAlignIs n) state next = next ≡ record state { align = n }
IsLeft line (NextOrg n) state next = next ≡ record state { org = n }
IsLeft line (StartIs crosses name load_name) state next = Opens line crosses name load_name state next
IsLeft line EndIs state next = Closes state next
IsLeft line said state next = (s : StartedSegment) × (state.segment ≡ Some s) × Leaves said state s next
