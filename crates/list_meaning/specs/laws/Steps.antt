-- Steps of definitions: the words that the lemmas have for parts of them.
use Rattle.std.specs.Prelude.{ℕ, ◌==◌, Bool, false, ◌&&◌, List, [], ◌∷◌, drop, Option, Some, None, Result, if◌then◌else◌, ◌++◌, codes, is_some, option_and_then, ok_or, ◌+◌}
use Rattle.std.specs.List.{list_all, list_any, position_or_len, flat_map}
use Rattle.omf_format.specs.Ascii as ascii
use Rattle.omf_format.specs.Expression.{Tree, terms_of}
use Rattle.omf_format.specs.File.{Segment}
use Rattle.omf_format.specs.Header.{HeaderFields}
use Rattle.orca_meaning.specs.declared.mnemonics.Mnemonic.{Mnemonic}
use Rattle.orca_meaning.specs.declared.mnemonics.Mnemonic.TheVariants.{Brk}
use Rattle.orca_meaning.specs.declared.modes.Mode.{Mode}
use Rattle.orca_meaning.specs.declared.modes.Mode.TheVariants.{Signature}
use Rattle.orca_meaning.specs.Matrix.{Instruction}
use Rattle.list_meaning.specs.Listed.{ListedStatement, Instructs, Bytes, Wanted, shape_of, wanted_text, said_text}
use Rattle.list_meaning.specs.Listing.{instruction_of_opcode, weak_of, record_of_opcode, is_record, PendingRun, Given, with_run_written, then_said, term_may_stand, is_open, both_long, is_short, equate_name, is_lost, widths_rest}
use Rattle.object_meaning.specs.Sizes.{records_with_offsets}

-- the instruction of an opcode
abbrev pub or_brk : Option Instruction → Instruction
or_brk None = (Brk, Signature)
or_brk (Some i) = i

-- the last byte of a run, and those before it
abbrev pub after_byte : ℕ → Option (List ℕ × ℕ) → Option (List ℕ × ℕ)
after_byte byte None = Some ([], byte)
after_byte byte (Some found) = Some (byte ∷ found.0, found.1)

-- after the first space all are spaces
abbrev pub is_padded : List ℕ → Bool
is_padded text = list_all (λ byte. byte == ascii.space) (drop (position_or_len (λ byte. byte == ascii.space) text) text)

-- an EXPR is one weak name with count 2, or a formula that contains a name or the location counter
abbrev pub expr_listable : ℕ → Tree → Bool
expr_listable count tree =
    if is_some (weak_of tree) then count == 2
    else list_all term_may_stand (terms_of tree) && list_any is_open (terms_of tree)

-- the record follows directly on an opcode that has it
abbrev pub follows_opcode : ℕ → ℕ → ℕ → Option (List ℕ × ℕ) → Bool
follows_opcode code count n None = false
follows_opcode code count n (Some found) = is_record code count n (record_of_opcode both_long found.1)

-- what is said of an expression's tree
abbrev pub on_tree : {A : Type 0} → Option Tree → (Tree → Option A) → Option A
on_tree o f = option_and_then f o

-- the opcode is held back: the run without it, and one instruction
abbrev pub held_back : PendingRun → List ℕ → ℕ → Wanted → Given
held_back b rest opcode wanted =
    let given = with_run_written (record b { run = rest }) in
    then_said (Instructs (instruction_of_opcode opcode).0 (instruction_of_opcode opcode).1 wanted ∷ []) given

-- all lines fit in 255 bytes
abbrev pub are_short : Given → Bool
are_short given = list_all is_short given.0

-- before the first record: both registers have 16 bits, and SEGNAME is defined
abbrev pub at_front : HeaderFields → PendingRun
at_front f = record { widths = both_long; run = []; names = f.name ∷ [] }

-- the names of a segment's equates
abbrev pub equates_of : Segment → List (List ℕ)
equates_of s = flat_map (λ found. equate_name found.1) s.records

-- a record without lines can't be listed, at its place
abbrev pub or_record : {A : Type 0} → ℕ → Option A → Result A ℕ
or_record at o = ok_or o at

-- an instruction with its operand, or its bytes where it has none that is written
abbrev pub written_or : Mnemonic → Mode → List ℕ → Option Wanted → List ListedStatement
written_or mnemonic way bytes None = Bytes bytes ∷ []
written_or mnemonic way bytes (Some wanted) = Instructs mnemonic way wanted ∷ []

-- the text: a line each, with LF
abbrev pub line_text : ListedStatement → List ℕ
line_text said = said_text said ++ ascii.line_feed ∷ []

-- what a width is turned to
abbrev pub on_text : Bool → List ℕ
on_text on = if on then codes "ON" else codes "OFF"

-- the sign between a name and the number after it
abbrev pub sign_text : Bool → List ℕ
sign_text adds = if adds then codes "+" else codes "-"

-- an operand in its mode
abbrev pub operand_text : Mode → Wanted → List ℕ
operand_text mode wanted = (shape_of mode).0 ++ (wanted_text wanted ++ (shape_of mode).1)

-- code, data, initialization, and direct page and stack
abbrev pub is_listed_form : ℕ → Bool
is_listed_form form = list_any (λ t. t == form) (0x00 ∷ 0x01 ∷ 0x10 ∷ 0x12 ∷ [])

-- an ALIGN of 0 is at another place than 0
abbrev pub has_lost_place : Segment → Bool
has_lost_place s = list_any (λ l. is_lost l.location l.content) (records_with_offsets s)

-- the last byte is an opcode that has this record, at the widths after the run without it
abbrev pub is_held : PendingRun → ℕ → ℕ → ℕ → List ℕ × ℕ → Bool
is_held b code count n found = is_record code count n (record_of_opcode (widths_rest b.widths 0 found.0) found.1)

-- the greatest LENGTH, where the segment may cross banks and where it may not
abbrev pub greatest_length : ℕ → ℕ
greatest_length bank_size = if bank_size == 0 then 0xFFFFFF else 0x10000

-- a text with a space before it, unless it is empty
abbrev pub with_leading_space : List ℕ → List ℕ
with_leading_space [] = []
with_leading_space (byte ∷ text) = ascii.space ∷ byte ∷ text
