-- Which segments can be listed, and their lines.
use Rattle.std.specs.Prelude.{ℕ, zero, suc, ◌+◌, ◌==◌, Bool, true, false, not, ◌&&◌, ◌||◌, nat_le, bit_and, List, [], ◌∷◌, ◌++◌, length, take, drop, bytes_eq, slice_get, Option, Some, None, Result, Ok, Err, if◌then◌else◌, is_some, option_and_then, ok_or}
use Rattle.std.specs.Int.{is_power_of_two}
use Rattle.std.specs.List.{list_all, list_any, position_or_len, flat_map}
use Rattle.byteorder.specs.Endian.{little_number}
use Rattle.omf_format.specs.declared.codes.TheConstants.{EXPR, RELEXPR}
use Rattle.omf_format.specs.Ascii as ascii
use Rattle.omf_format.specs.Field.{◌>>=◌}
use Rattle.omf_format.specs.Expression.{Tree, Leaf, Binary, Term, Operator, Location, Constant, Named, Offset, terms_of}
use Rattle.omf_format.specs.File.{Segment}
use Rattle.omf_format.specs.Header.{HeaderFields, form_of, alignment_of}
use Rattle.omf_format.specs.Record.{Record, End, Const, LongConst, Align, Org, Space, Using, Strong, Label, Equate, Formula}
use Rattle.object_meaning.specs.Sizes.{records_with_offsets, body_size}
use Rattle.object_meaning.specs.Terms.{tree_in}
use Rattle.orca_meaning.specs.declared.mnemonics.Mnemonic.{Mnemonic}
use Rattle.orca_meaning.specs.declared.mnemonics.Mnemonic.TheVariants.{Brk, Rep, Sep}
use Rattle.orca_meaning.specs.declared.modes.Mode.TheVariants.{Signature}
use Rattle.orca_meaning.specs.Characters.{is_name, folded}
use Rattle.orca_meaning.specs.Matrix.{matrix, Instruction}
use Rattle.asm_meaning.specs.declared.directives.Switch.TheVariants.{LongA, LongI}
use Rattle.asm_meaning.specs.Instruction.{Widths, OperandKind, Missing, Value, Address, Distance, Banks, Sign, kind_of, operand_bytes, address_code}
use Rattle.list_meaning.specs.Listed.{ListedStatement, NextAlignIs, NextOrg, StartIs, KindIs, SwitchIs, Ds, Aligns, OrgIs, UsingIs, StrongIs, Labels, Equates, Instructs, Bytes, WeakIs, FormulaIs, EndIs, Wanted, None', Number, Moved, said_text, listing_text}
use Rattle.list_meaning.specs.Listed as listed

-- ---- names

-- a name that can be written unchanged
abbrev pub is_listable : List ℕ → Bool
is_listable name = is_name name && bytes_eq (folded name) name

-- LOADNAME without the spaces after it
abbrev pub without_padding : List ℕ → List ℕ
without_padding text = take (position_or_len (λ byte. byte == ascii.space) text) text

-- ---- the lines before a segment's records

-- LOADNAME is spaces, or a name that can be written unchanged with spaces after it
abbrev pub is_listable_load_name : List ℕ → Bool
is_listable_load_name text =
    list_all (λ byte. byte == ascii.space) (drop (position_or_len (λ byte. byte == ascii.space) text) text)
    && (bytes_eq (without_padding text) [] || is_listable (without_padding text))

-- an ALIGN of 0 away from place 0: no number of zeros meets it
abbrev pub is_lost : ℕ → Record → Bool
is_lost at (Align n) = n == 0 && not (at == 0)
is_lost at _ = false

-- The header can be listed: its type is code, data, initialization, or direct page and stack; its names, BANKSIZE, ALIGN and
-- ENTRY; no ALIGN of 0 is at another place than 0; and LENGTH is the number of cells, with a bound where the segment may cross
-- banks and another where it may not.
abbrev pub has_listable_header : Segment → Bool
has_listable_header s =
    list_any (λ t. t == form_of s.fields.kind) (0x00 ∷ 0x01 ∷ 0x10 ∷ 0x12 ∷ []) && is_listable s.fields.name && is_listable_load_name s.fields.load_name
    && (s.fields.bank_size == 0 || s.fields.bank_size == 0x10000)
    && (s.fields.align == 0 || (is_power_of_two s.fields.align && nat_le s.fields.align 0x10000)) && s.fields.entry == 0
    && not (list_any (λ l. is_lost l.location l.content) (records_with_offsets s)) && s.fields.length == body_size s + s.fields.res_spc
    && nat_le s.fields.length (if s.fields.bank_size == 0 then 0xFFFFFF else 0x10000)

-- a line with a number that isn't 0
abbrev pub unless_zero : (ℕ → ListedStatement) → ℕ → List ListedStatement
unless_zero said n = if n == 0 then [] else said n ∷ []

-- the lines before those of the records
unfoldable pub front_of : HeaderFields → List ListedStatement
front_of f =
    unless_zero NextAlignIs f.align
    ++ (unless_zero NextOrg f.org ++ StartIs (f.bank_size == 0) f.name (without_padding f.load_name) ∷ KindIs f.kind ∷ SwitchIs LongA true ∷ SwitchIs LongI true ∷ [])

-- ---- instructions in a run

-- the instruction of an opcode
abbrev pub instruction_of_opcode : ℕ → Instruction
instruction_of_opcode opcode = elim (slice_get matrix opcode) [ Some found ↦ found | None ↦ (Brk, Signature) ]

-- how many bytes are after an opcode
abbrev pub after_opcode : Widths → ℕ → ℕ
after_opcode w opcode = operand_bytes w (instruction_of_opcode opcode).0 (instruction_of_opcode opcode).1

-- REP turns the widths on whose bits are set, and SEP turns them off
abbrev pub widths_by : Bool → ℕ → Widths → Widths
widths_by on operand w = record {
  long_a = if bit_and operand 0x20 == 0 then w.long_a else on;
  long_i = if bit_and operand 0x10 == 0 then w.long_i else on;
}

-- the widths after an instruction with constant bytes
unfoldable pub widths_following : Mnemonic → List ℕ → Widths → Widths
widths_following Rep bytes w = widths_by true (little_number 1 bytes) w
widths_following Sep bytes w = widths_by false (little_number 1 bytes) w
widths_following _ bytes w = w

-- a width is as it was
abbrev pub same_bool : Bool → Bool → Bool
same_bool a b = if a then b else not b

-- LONGA and LONGI where a width changed
abbrev pub turns_between : Widths → Widths → List ListedStatement
turns_between w v =
    (if same_bool w.long_a v.long_a then [] else SwitchIs LongA v.long_a ∷ [])
    ++ (if same_bool w.long_i v.long_i then [] else SwitchIs LongI v.long_i ∷ [])

-- the operand of an instruction by its bytes; None for a branch
abbrev pub operand_by : OperandKind → List ℕ → Option Wanted
operand_by Missing bytes = Some None'
operand_by Value bytes = Some (Number (length bytes) (little_number (length bytes) bytes))
operand_by (Address n) bytes = Some (Number (length bytes) (little_number (length bytes) bytes))
operand_by (Distance n) bytes = None
operand_by Banks bytes = Some (listed.Banks (little_number 1 (drop 1 bytes)) (little_number 1 bytes))
operand_by Sign bytes = Some (Number (length bytes) (little_number (length bytes) bytes))

-- an instruction with the bytes after its opcode; at the end there may be fewer than it should have
unfoldable pub said_instruction : Widths → ℕ → List ℕ → List ListedStatement
said_instruction w opcode bytes =
    let found = instruction_of_opcode opcode in
    if length bytes == after_opcode w opcode
    then
    elim (operand_by (kind_of found.1) bytes) [ None ↦ Bytes (opcode ∷ bytes) ∷ [] | Some wanted ↦ Instructs found.0 found.1 wanted ∷ [] ]
    ++ turns_between w (widths_following found.0 bytes w)
    else Bytes (opcode ∷ bytes) ∷ []

-- the widths after it
abbrev pub widths_past : Widths → ℕ → List ℕ → Widths
widths_past w opcode bytes = if length bytes == after_opcode w opcode then widths_following (instruction_of_opcode opcode).0 bytes w else w

-- the rest of a run, of which the first `taken` bytes were taken already
unfoldable pub said_rest : Widths → ℕ → List ℕ → List ListedStatement
said_rest w taken [] = []
said_rest w (suc taken) (byte ∷ following) = said_rest w taken following
said_rest w zero (opcode ∷ following) =
    let bytes = take (after_opcode w opcode) following in
    said_instruction w opcode bytes ++ said_rest (widths_past w opcode bytes) (length bytes) following

-- the widths after the rest of a run
unfoldable pub widths_rest : Widths → ℕ → List ℕ → Widths
widths_rest w taken [] = w
widths_rest w (suc taken) (byte ∷ following) = widths_rest w taken following
widths_rest w zero (opcode ∷ following) =
    let bytes = take (after_opcode w opcode) following in widths_rest (widths_past w opcode bytes) (length bytes) following

-- ---- expression records

-- one name, or one name and a number that is added to it or taken from it
unfoldable pub simple_of : Tree → Option Wanted
simple_of (Leaf (Named code name)) = if code == 0x83 then Some (listed.Label name) else None
simple_of (Binary operator (Leaf (Named code name)) (Leaf (Constant n))) =
    if code == 0x83 && operator == 0x01 then Some (Moved name true n)
    else if code == 0x83 && operator == 0x02 then Some (Moved name false n)
    else None
simple_of _ = None

-- the name where the expression is one weak name
unfoldable pub weak_of : Tree → Option (List ℕ)
weak_of (Leaf (Named code name)) = if code == 0x82 then Some name else None
weak_of _ = None

-- the code, the count and the n of the record of an operand that is no constant, where the instruction has one such record
unfoldable pub record_by : Mnemonic → OperandKind → ℕ → Option (ℕ × ℕ × ℕ)
record_by mnemonic Missing bytes = None
record_by mnemonic Value bytes = Some (EXPR, bytes, 0)
record_by mnemonic (Address n) bytes = Some (address_code mnemonic n, bytes, 0)
record_by mnemonic (Distance n) bytes = Some (RELEXPR, bytes, bytes)
record_by mnemonic Banks bytes = None
record_by mnemonic Sign bytes = Some (EXPR, bytes, 0)

-- the record of an opcode's operand that is no constant
abbrev pub record_of_opcode : Widths → ℕ → Option (ℕ × ℕ × ℕ)
record_of_opcode w opcode = record_by (instruction_of_opcode opcode).0 (kind_of (instruction_of_opcode opcode).1) (after_opcode w opcode)

-- the record has this code, this count and this n
abbrev pub is_record : ℕ → ℕ → ℕ → Option (ℕ × ℕ × ℕ) → Bool
is_record code count n None = false
is_record code count n (Some (a, b, c)) = a == code && b == count && c == n

-- ---- what lines so far leave, and one more record

-- the present widths, the constant bytes directly before, and the names that were defined
pub record PendingRun : Type 0 where
  pub widths : Widths
  pub run : List ℕ
  pub names : List (List ℕ)

-- the lines of a record, and what it leaves
abbrev pub Given : Type 0
Given = List ListedStatement × PendingRun

-- the run is written
abbrev pub with_run_written : PendingRun → Given
with_run_written b = (said_rest b.widths 0 b.run, record { widths = widths_rest b.widths 0 b.run; run = []; names = b.names })

-- and then these lines
abbrev pub then_said : List ListedStatement → Given → Given
then_said more given = (given.0 ++ more, given.1)

-- one more name is defined
abbrev pub with_name : List ℕ → Given → Given
with_name name given = (given.0, record { widths = given.1.widths; run = given.1.run; names = name ∷ given.1.names })

-- the name is one of these
abbrev pub is_among : List (List ℕ) → List ℕ → Bool
is_among names name = list_any (bytes_eq name) names

-- a run without its last byte, and that byte
unfoldable pub split_last : List ℕ → Option (List ℕ × ℕ)
split_last [] = None
split_last (byte ∷ following) = elim (split_last following) [ None ↦ Some ([], byte) | Some found ↦ Some (byte ∷ found.0, found.1) ]

-- a DC for an EXPR that isn't part of an instruction
abbrev pub dc_of_formula : ℕ → Tree → Option (List ℕ) → ListedStatement
dc_of_formula count tree None = FormulaIs count tree
dc_of_formula count tree (Some name) = WeakIs name

-- The lines of an expression record: an instruction with the byte before it, where that is an opcode that has this record at the
-- widths after the run without it; or a DC.
unfoldable pub formula_given : PendingRun → ℕ → ℕ → ℕ → Tree → Option (List ℕ × ℕ) → Option Wanted → Given
formula_given b code count n tree (Some found) (Some wanted) =
    if is_record code count n (record_of_opcode (widths_rest b.widths 0 found.0) found.1)
    then then_said (Instructs (instruction_of_opcode found.1).0 (instruction_of_opcode found.1).1 wanted ∷ []) (with_run_written (record b { run = found.0 }))
    else then_said (dc_of_formula count tree (weak_of tree) ∷ []) (with_run_written b)
formula_given b code count n tree (Some found) None = then_said (dc_of_formula count tree (weak_of tree) ∷ []) (with_run_written b)
formula_given b code count n tree None wanted = then_said (dc_of_formula count tree (weak_of tree) ∷ []) (with_run_written b)

-- ---- which records can be listed

-- a name in an expression can be written unchanged, and is no equate of the segment
abbrev pub term_listable : List (List ℕ) → Term → Bool
term_listable equates (Operator code) = true
term_listable equates Location = true
term_listable equates (Constant n) = true
term_listable equates (Named code name) = is_listable name && not (is_among equates name)
term_listable equates (Offset n) = true

-- $80, $81 and $83, and the operators $01 to $04 and $06 to $11
abbrev pub term_may_stand : Term → Bool
term_may_stand (Operator code) = nat_le 0x01 code && nat_le code 0x11 && not (code == 0x05)
term_may_stand Location = true
term_may_stand (Constant n) = true
term_may_stand (Named code name) = code == 0x83
term_may_stand (Offset n) = false

-- $80 or $83
abbrev pub is_open : Term → Bool
is_open (Operator code) = false
is_open Location = true
is_open (Constant n) = false
is_open (Named code name) = code == 0x83
is_open (Offset n) = false

-- whatever the widths are: only EXPR follows on them
abbrev pub both_long : Widths
both_long = record { long_a = true; long_i = true }

-- An expression record can be listed: an EXPR is one weak name with count 2, or a formula that contains a name or the location
-- counter, and any other record follows directly on an opcode that has it.
unfoldable pub formula_listable : List (List ℕ) → PendingRun → ℕ → ℕ → ℕ → Tree → Bool
formula_listable equates b code count n tree =
    list_all (term_listable equates) (terms_of tree)
    && (if code == EXPR
    then (if is_some (weak_of tree) then count == 2 else list_all term_may_stand (terms_of tree) && list_any is_open (terms_of tree))
    else is_some (simple_of tree) && elim (split_last b.run) [ None ↦ false | Some found ↦ is_record code count n (record_of_opcode both_long found.1) ])

-- the line fits in 255 bytes
abbrev pub is_short : ListedStatement → Bool
is_short said = nat_le (length (said_text said)) 255

-- the lines, where a test holds and they fit
abbrev pub if_short : Bool → Given → Option Given
if_short holds given = if holds && list_all is_short given.0 then Some given else None

-- the number where the expression is one
abbrev pub number_of : Tree → Option ℕ
number_of (Leaf (Constant n)) = Some n
number_of _ = None

-- the lines of EQU or GEQU of a number
abbrev pub equate_given : PendingRun → Bool → List ℕ → Option ℕ → Option Given
equate_given b global name None = None
equate_given b global name (Some n) = if_short (is_listable name && not (is_among b.names name)) (with_name name (then_said (Equates global name n ∷ []) (with_run_written b)))

-- the lines of a record where it can be listed, and what it leaves; what is before ALIGN is in the header
unfoldable pub given_by : HeaderFields → List (List ℕ) → PendingRun → Record → Option Given
given_by f equates b End = if_short true (then_said (unless_zero Ds f.res_spc ++ EndIs ∷ []) (with_run_written b))
given_by f equates b (Const bytes) = Some ([], record b { run = b.run ++ bytes })
given_by f equates b (LongConst bytes) = Some ([], record b { run = b.run ++ bytes })
given_by f equates b (Align n) = if_short (is_power_of_two n && nat_le n 0x10000 && nat_le n (alignment_of f.align)) (then_said (Aligns n ∷ []) (with_run_written b))
given_by f equates b (Org n) = if_short true (then_said (OrgIs n ∷ []) (with_run_written b))
given_by f equates b (Space n) = if_short true (then_said (Ds n ∷ []) (with_run_written b))
given_by f equates b (Using name) = if_short (is_listable name) (then_said (UsingIs name ∷ []) (with_run_written b))
given_by f equates b (Strong name) = if_short (is_listable name) (then_said (StrongIs name ∷ []) (with_run_written b))
given_by f equates b (Label global name size form private) =
    if_short ((not global || private == 0) && is_listable name && not (is_among b.names name)) (with_name name (then_said (Labels global name ∷ []) (with_run_written b)))
given_by f equates b (Equate global name size form private expr) =
    if not global || private == 0 then option_and_then (λ tree. equate_given b global name (number_of tree)) (tree_in f.lab_len expr) else None
given_by f equates b (Formula code count n expr) =
    option_and_then
    (λ tree. if_short (formula_listable equates b code count n tree) (formula_given b code count n tree (split_last b.run) (simple_of tree)))
    (tree_in f.lab_len expr)
given_by f equates b _ = None

-- ---- a segment

-- the name of an equate
abbrev pub equate_name : Record → List (List ℕ)
equate_name (Equate global name size form private expr) = name ∷ []
equate_name _ = []

-- the lines of records after these lines, or the place of the first that can't be listed
unfoldable pub said_from : HeaderFields → List (List ℕ) → PendingRun → List (ℕ × Record) → Result (List ListedStatement) ℕ
said_from f equates b [] = Ok []
said_from f equates b (found ∷ founds) =
    ok_or (given_by f equates b found.1) found.0 >>= λ given. said_from f equates given.1 founds >>= λ more. Ok (given.0 ++ more)

-- The lines of a segment, or the place where it can't be listed: its start, or a record. Before the first record both registers
-- have 16 bits, and SEGNAME is defined.
unfoldable pub listing_of : Segment → Result (List ListedStatement) ℕ
listing_of s =
    if has_listable_header s && list_all is_short (front_of s.fields)
    then
    (said_from s.fields (flat_map (λ found. equate_name found.1) s.records) (record { widths = both_long; run = []; names = s.fields.name ∷ [] }) s.records
    >>= λ more. Ok (front_of s.fields ++ more))
    else Err s.start

-- ---- a file

-- a place that can't be listed is reported with the number of its segment
abbrev pub in_segment : {A : Type 0} → ℕ → Result A ℕ → Result A (ℕ × ℕ)
in_segment number (Ok a) = Ok a
in_segment number (Err at) = Err (number, at)

-- the lines of segments, of which the first has this number, or the number and the place of the first that can't be listed
unfoldable pub listing_from : ℕ → List Segment → Result (List ListedStatement) (ℕ × ℕ)
listing_from number [] = Ok []
listing_from number (s ∷ segments) =
    in_segment number (listing_of s) >>= λ first. listing_from (number + 1) segments >>= λ more. Ok (first ++ more)

-- the text has at most 16,777,216 bytes and 65,536 lines
abbrev pub is_small : List ListedStatement → Bool
is_small all = nat_le (length all) 65536 && nat_le (length (listing_text all)) 16777216
