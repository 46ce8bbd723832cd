-- The lines of a listing: how each is written, and what it represents.
use Rattle.std.specs.Prelude.{ℕ, ◌*◌, ◌==◌, Bool, List, [], ◌∷◌, ◌++◌, codes, Some, None, if◌then◌else◌}
use Rattle.std.specs.List.{flat_map, find}
use Rattle.omf_format.specs.Ascii as ascii
use Rattle.omf_format.specs.Expression.{Tree, Leaf, Unary, Binary, Location, Constant, Named}
use Rattle.omf_base.specs.Digits.{hexadecimal}
use Rattle.orca_meaning.specs.declared.mnemonics.Mnemonic.{Mnemonic}
use Rattle.orca_meaning.specs.declared.modes.Mode.{Mode}
use Rattle.orca_meaning.specs.declared.modes.Mode.TheVariants.{Implied, Accumulator, Immediate, Direct, DirectX, DirectY, DirectIndirect, DirectIndirectY, DirectXIndirect, DirectLong, DirectLongY, Stack, StackIndirectY, Absolute, AbsoluteX, AbsoluteY, AbsoluteIndirect, AbsoluteXIndirect, AbsoluteLongIndirect, Long, LongX, Relative8, Relative16, Move, Signature}
use Rattle.orca_meaning.specs.contracts.mnemonics.Mnemonic as mnemonic_type
use denote.Enum.Bare.{sameb}
use Rattle.orca_meaning.specs.Operation.{mnemonics}
use Rattle.asm_meaning.specs.declared.directives.Switch.{Switch}
use Rattle.asm_meaning.specs.declared.directives.Switch.TheVariants.{LongA, LongI, Msb}

-- ---- what a line says

-- the operand of an instruction: none; a number of a given number of bytes; two bank bytes, the source first; or a name, maybe with a
-- number that is added to it or taken from it
pub data Wanted : Type 0 where
  None' : Wanted
  Number : (bytes n : ℕ) → Wanted
  Banks : (source destination : ℕ) → Wanted
  Label : (name : List ℕ) → Wanted
  Moved : (name : List ℕ) (adds : Bool) (n : ℕ) → Wanted

-- what a line of a listing says
pub data ListedStatement : Type 0 where
  -- ALIGN and ORG of the segment that follows
  NextAlignIs : (n : ℕ) → ListedStatement
  NextOrg : (n : ℕ) → ListedStatement
  -- START, or DATA where BANKSIZE is 0, with LOADNAME if there is one
  StartIs : (crosses : Bool) (name load_name : List ℕ) → ListedStatement
  KindIs : (n : ℕ) → ListedStatement
  SwitchIs : (switch : Switch) (on : Bool) → ListedStatement
  -- records
  Ds : (n : ℕ) → ListedStatement
  Aligns : (n : ℕ) → ListedStatement
  OrgIs : (n : ℕ) → ListedStatement
  UsingIs : (name : List ℕ) → ListedStatement
  StrongIs : (name : List ℕ) → ListedStatement
  Labels : (global : Bool) (name : List ℕ) → ListedStatement
  Equates : (global : Bool) (name : List ℕ) (n : ℕ) → ListedStatement
  -- constant bytes and expression records
  Instructs : (mnemonic : Mnemonic) (mode : Mode) (operand : Wanted) → ListedStatement
  Bytes : (bytes : List ℕ) → ListedStatement
  WeakIs : (name : List ℕ) → ListedStatement
  FormulaIs : (count : ℕ) (tree : Tree) → ListedStatement
  -- END
  EndIs : ListedStatement

-- ---- how it is written

-- a label or none, an operation, and an operand with a space before it, or none
abbrev pub statement_text : List ℕ → List ℕ → List ℕ → List ℕ
statement_text label operation operand = label ++ (ascii.space ∷ (operation ++ elim operand [ [] ↦ [] | byte ∷ text ↦ ascii.space ∷ byte ∷ text ]))

-- a number as it is written: `$`, and a given number of digits
abbrev pub number_text : ℕ → ℕ → List ℕ
number_text places n = ascii.dollar ∷ hexadecimal places n

-- the spelling of a mnemonic in upper case
unfoldable pub spelling_of : Mnemonic → List ℕ
spelling_of mnemonic = elim (find (λ row. sameb mnemonic_type.the_type row.1 mnemonic) mnemonics) [ Some row ↦ row.0 | None ↦ [] ]

-- the text before and after the formula in a mode
unfoldable pub shape_of : Mode → List ℕ × List ℕ
shape_of Implied = ([], [])
shape_of Accumulator = (codes "A", [])
shape_of Immediate = (codes "#", [])
shape_of Direct = (codes "<", [])
shape_of DirectX = (codes "<", codes ",X")
shape_of DirectY = (codes "<", codes ",Y")
shape_of DirectIndirect = (codes "(<", codes ")")
shape_of DirectIndirectY = (codes "(<", codes "),Y")
shape_of DirectXIndirect = (codes "(<", codes ",X)")
shape_of DirectLong = (codes "[<", codes "]")
shape_of DirectLongY = (codes "[<", codes "],Y")
shape_of Stack = ([], codes ",S")
shape_of StackIndirectY = (codes "(", codes ",S),Y")
shape_of Absolute = (codes "|", [])
shape_of AbsoluteX = (codes "|", codes ",X")
shape_of AbsoluteY = (codes "|", codes ",Y")
shape_of AbsoluteIndirect = (codes "(|", codes ")")
shape_of AbsoluteXIndirect = (codes "(|", codes ",X)")
shape_of AbsoluteLongIndirect = (codes "[|", codes "]")
shape_of Long = (codes ">", [])
shape_of LongX = (codes ">", codes ",X")
shape_of Relative8 = ([], [])
shape_of Relative16 = ([], [])
shape_of Move = ([], [])
shape_of Signature = ([], [])

-- a constant has two digits a byte, and other numbers have eight
abbrev pub wanted_text : Wanted → List ℕ
wanted_text None' = []
wanted_text (Number bytes n) = number_text (2 * bytes) n
wanted_text (Banks source destination) = number_text 2 source ++ (codes "," ++ number_text 2 destination)
wanted_text (Label name) = name
wanted_text (Moved name adds n) = name ++ ((if adds then codes "+" else codes "-") ++ number_text 8 n)

-- the operators that a formula may have
unfoldable pub operator_text : ℕ → List ℕ
operator_text code =
    if code == 0x01 then codes "+" else if code == 0x02 then codes "-" else if code == 0x03 then codes "*"
    else if code == 0x04 then codes "/" else if code == 0x06 then codes "-" else if code == 0x07 then codes "|"
    else if code == 0x08 then codes ".AND." else if code == 0x09 then codes ".OR." else if code == 0x0A then codes ".EOR."
    else if code == 0x0B then codes ".NOT." else if code == 0x0C then codes "<=" else if code == 0x0D then codes ">="
    else if code == 0x0E then codes "<>" else if code == 0x0F then codes "<" else if code == 0x10 then codes ">"
    else if code == 0x11 then codes "=" else []

-- a formula; as an operand it is in parentheses unless it is a name, a number or `*`
abbrev pub as_operand : Tree → List ℕ → List ℕ
as_operand (Leaf term) text = text
as_operand (Unary code a) text = codes "(" ++ (text ++ codes ")")
as_operand (Binary code a b) text = codes "(" ++ (text ++ codes ")")

-- the formula of an expression; a listing has no terms but these
abbrev pub formula_text : Tree → List ℕ
formula_text (Leaf term) = elim term [ Location ↦ codes "*" | Constant n ↦ number_text 8 n | Named code name ↦ name | _ ↦ [] ]
formula_text (Unary code a) = operator_text code ++ as_operand a (formula_text a)
formula_text (Binary code a b) = as_operand a (formula_text a) ++ (operator_text code ++ as_operand b (formula_text b))

-- what is turned on or off
abbrev pub switch_text : Switch → List ℕ
switch_text LongA = codes "LONGA"
switch_text LongI = codes "LONGI"
switch_text Msb = codes "MSB"

-- a value in quotes after the type of a DC
abbrev pub quoted_value : List ℕ → List ℕ → List ℕ
quoted_value form value = form ++ (codes "'" ++ (value ++ codes "'"))

-- the line without its end
unfoldable pub said_text : ListedStatement → List ℕ
said_text (NextAlignIs n) = statement_text [] (codes "ALIGN") (number_text 8 n)
said_text (NextOrg n) = statement_text [] (codes "ORG") (number_text 8 n)
said_text (StartIs crosses name load_name) = statement_text name (if crosses then codes "DATA" else codes "START") load_name
said_text (KindIs n) = statement_text [] (codes "KIND") (number_text 4 n)
said_text (SwitchIs switch on) = statement_text [] (switch_text switch) (if on then codes "ON" else codes "OFF")
said_text (Ds n) = statement_text [] (codes "DS") (number_text 8 n)
said_text (Aligns n) = statement_text [] (codes "ALIGN") (number_text 8 n)
said_text (OrgIs n) = statement_text [] (codes "ORG") (codes "*+" ++ number_text 8 n)
said_text (UsingIs name) = statement_text [] (codes "USING") name
said_text (StrongIs name) = statement_text [] (codes "DC") (quoted_value (codes "R") name)
said_text (Labels global name) = statement_text name (if global then codes "ENTRY" else codes "ANOP") []
said_text (Equates global name n) = statement_text name (if global then codes "GEQU" else codes "EQU") (number_text 8 n)
said_text (Instructs mnemonic mode operand) =
    statement_text [] (spelling_of mnemonic) ((shape_of mode).0 ++ (wanted_text operand ++ (shape_of mode).1))
said_text (Bytes bytes) = statement_text [] (codes "DC") (quoted_value (codes "H") (flat_map (hexadecimal 2) bytes))
said_text (WeakIs name) = statement_text [] (codes "DC") (quoted_value (codes "S") name)
said_text (FormulaIs count tree) = statement_text [] (codes "DC") (quoted_value (codes "A" ++ hexadecimal 1 count) (formula_text tree))
said_text EndIs = statement_text [] (codes "END") []

-- the lines one after another, each with LF
unfoldable pub listing_text : List ListedStatement → List ℕ
listing_text all = flat_map (λ said. said_text said ++ ascii.line_feed ∷ []) all
