-- The law on one line, for an instruction with a name: the byte that is held back, and its record.
use Rattle.std.proofs.Common.{◌≡◌, ℕ, ◌^◌, ◌≤◌, Bool, true, false, cond, eqb, List, [], ◌∷◌, ◌++◌, Option, Some, None, Ok, refl, sym, ap, ◌∙◌, arith}
use Rattle.std.specs.Prelude.{◌*◌, codes, ◌==◌, ◌||◌, not, slice_get, slice_index}
use Rattle.std.specs.List.{AllByRecursion}
use Rattle.std.proofs.lemmas.Bool.{lt-leb, and_parts, eqb-true}
use Rattle.omf_format.specs.Field.{◌>>=◌}
use Rattle.omf_format.specs.Expression as expression
use Rattle.omf_format.specs.Expression.{Leaf, Binary}
use Rattle.orca_meaning.specs.declared.forms.OperandUse.{OperandUse}
use Rattle.orca_meaning.specs.declared.forms.OperandUse.TheVariants as uses
use Rattle.orca_meaning.specs.declared.mnemonics.Mnemonic.{Mnemonic}
use Rattle.orca_meaning.specs.declared.modes.Mode.{Mode}
use Rattle.orca_meaning.specs.declared.modes.Mode.TheVariants.{Implied, Accumulator, Immediate, Direct, DirectX, DirectY, DirectIndirect, DirectIndirectY, DirectXIndirect, DirectLong, DirectLongY, Stack, StackIndirectY, Absolute, AbsoluteX, AbsoluteY, AbsoluteIndirect, AbsoluteXIndirect, AbsoluteLongIndirect, Long, LongX, Relative8, Relative16, Move, Signature}
use Rattle.orca_meaning.specs.Characters.{is_blank, is_name_byte, is_name_start}
use Rattle.orca_meaning.specs.Formula.{pending, has_large, with_location_less}
use Rattle.orca_meaning.specs.Line.{line_of}
use Rattle.orca_meaning.specs.Matrix.{matrix}
use Rattle.orca_meaning.specs.laws.Steps.{means_accumulator}
use Rattle.orca_meaning.specs.Operation.{use_of, operation_use}
use Rattle.asm_meaning.specs.declared.directives.Operation.TheVariants.{Instruct}
use Rattle.asm_meaning.specs.Constant as constant
use Rattle.asm_meaning.specs.Constant.{Constants, Written, amount}
use Rattle.asm_meaning.specs.Instruction as instructions
use Rattle.asm_meaning.specs.Instruction.{Widths, instruction, kind_of, with_amount}
use Rattle.asm_meaning.specs.laws.Steps.{amount_by, mode_of_tree, number_or, number_or_open}
use Rattle.asm_meaning.specs.Pieces.{records_of, records_after}
use Rattle.asm_meaning.specs.State.{State, StartedSegment, cells_of, greatest_length, with_local_record, in_segment}
use Rattle.asm_meaning.specs.Statement.{IsStep, IsDone, IsOperandOf, Good, constants_of}
use Rattle.list_laws.specs.laws.LineText.{HasNoBlank, IsTaken}
use Rattle.list_meaning.specs.Listed.{statement_text}
use Rattle.omf_base.specs.Digits.{hexadecimal}
use Rattle.list_laws.specs.laws.Numbers.{hexadecimal_is}
use Rattle.list_meaning.specs.Listed.{number_text}
use Rattle.list_meaning.specs.Listed as listed
use Rattle.list_meaning.specs.Listed.{Wanted, None', Number, Banks, Label, Moved, Instructs, said_text, spelling_of, wanted_text}
use Rattle.list_meaning.specs.laws.Steps.{operand_text, sign_text}
use Rattle.list_laws.specs.laws.FormulaLaw.{IsPlainName}
use Rattle.list_laws.specs.laws.Spelled.{spelled}
use Rattle.list_laws.specs.laws.ModeLaw.{prefix_in, one_mode, opcode_back, used_is, is_used, is_never}
use Rattle.list_laws.specs.Given.{tree_of, held_records}
use Rattle.list_laws.specs.laws.OperandLaw.{HasName, TakesName, IsOther, meaning_in, operand_read}
use Rattle.list_laws.specs.laws.LineLaw.{step_of, inside, operation_is, number_ink, digits_ink}

-- ---- the text has no blank

append_ink : (a b : List ℕ) → HasNoBlank a → HasNoBlank b → HasNoBlank (a ++ b)
append_ink [] b p q = q
append_ink (byte ∷ a) b p q = (p.0, append_ink a b p.1 q)

pub byte_ink : (byte : ℕ) → is_name_byte byte ≡ true → is_blank byte ≡ false
byte_ink byte is = by (byte == 0x20) (byte == 0x09) refl refl
  where
    clash : (k : ℕ) → is_name_byte k ≡ false → eqb byte k ≡ true → ⊥
    clash k none e = let both : true ≡ false = sym is ∙ ap is_name_byte (eqb-true byte k e) ∙ none in absurd cc

    by : (a b : Bool) → eqb byte 0x20 ≡ a → eqb byte 0x09 ≡ b → (a || b) ≡ false
    by true b e f = absurd (clash 0x20 refl e)
    by false true e f = absurd (clash 0x09 refl f)
    by false false e f = refl

pub start_is_byte : (byte : ℕ) → is_name_start byte ≡ true → is_name_byte byte ≡ true
start_is_byte byte is = rw is refl

bytes_ink : (name : List ℕ) → AllByRecursion (λ b. is_name_byte b ≡ true) name → HasNoBlank name
bytes_ink [] are = tt
bytes_ink (byte ∷ name) are = (byte_ink byte are.0, bytes_ink name are.1)

pub name_ink : (name : List ℕ) → IsPlainName name → HasNoBlank name
name_ink [] is = absurd is
name_ink (byte ∷ name) is = (byte_ink byte (start_is_byte byte is.0), bytes_ink name is.1)

wanted_ink : (w : Wanted) → HasName w → HasNoBlank (wanted_text w)
wanted_ink None' has = absurd has
wanted_ink (Number bytes n) has = (refl, digits_ink (hexadecimal (2 * bytes) n) (hexadecimal_is (2 * bytes) n has).0.1)
wanted_ink (Banks source destination) has = absurd has
wanted_ink (Label name) has = name_ink name has
wanted_ink (Moved name true n) has = append_ink name (codes "+" ++ number_text 8 n) (name_ink name has.0) (refl, number_ink 8 n has.1)
wanted_ink (Moved name false n) has = append_ink name (codes "-" ++ number_text 8 n) (name_ink name has.0) (refl, number_ink 8 n has.1)

shape_ink : (way : Mode) → HasNoBlank (listed.shape_of way).0 × HasNoBlank (listed.shape_of way).1
unfolding listed.shape_of
shape_ink Implied = (tt, tt)
shape_ink Accumulator = ((refl, tt), tt)
shape_ink Immediate = ((refl, tt), tt)
shape_ink Direct = ((refl, tt), tt)
shape_ink DirectX = ((refl, tt), (refl, (refl, tt)))
shape_ink DirectY = ((refl, tt), (refl, (refl, tt)))
shape_ink DirectIndirect = ((refl, (refl, tt)), (refl, tt))
shape_ink DirectIndirectY = ((refl, (refl, tt)), (refl, (refl, (refl, tt))))
shape_ink DirectXIndirect = ((refl, (refl, tt)), (refl, (refl, (refl, tt))))
shape_ink DirectLong = ((refl, (refl, tt)), (refl, tt))
shape_ink DirectLongY = ((refl, (refl, tt)), (refl, (refl, (refl, tt))))
shape_ink Stack = (tt, (refl, (refl, tt)))
shape_ink StackIndirectY = ((refl, tt), (refl, (refl, (refl, (refl, (refl, tt))))))
shape_ink Absolute = ((refl, tt), tt)
shape_ink AbsoluteX = ((refl, tt), (refl, (refl, tt)))
shape_ink AbsoluteY = ((refl, tt), (refl, (refl, tt)))
shape_ink AbsoluteIndirect = ((refl, (refl, tt)), (refl, tt))
shape_ink AbsoluteXIndirect = ((refl, (refl, tt)), (refl, (refl, (refl, tt))))
shape_ink AbsoluteLongIndirect = ((refl, (refl, tt)), (refl, tt))
shape_ink Long = ((refl, tt), tt)
shape_ink LongX = ((refl, tt), (refl, (refl, tt)))
shape_ink Relative8 = (tt, tt)
shape_ink Relative16 = (tt, tt)
shape_ink Move = (tt, tt)
shape_ink Signature = (tt, tt)

pub operand_ink : (way : Mode) (w : Wanted) → HasName w → HasNoBlank (operand_text way w)
operand_ink way w has =
    append_ink (listed.shape_of way).0 (wanted_text w ++ (listed.shape_of way).1) (shape_ink way).0 (append_ink (wanted_text w) (listed.shape_of way).1 (wanted_ink w has) (shape_ink way).1)

-- ---- it is taken

no_semicolon : (text : List ℕ) → (byte : ℕ) (following : List ℕ) → text ≡ byte ∷ following → is_name_start byte ≡ true → (slice_index text 0 == 0x3B) ≡ false
no_semicolon text byte following whole start = ap (λ (l : List ℕ). slice_index l 0 == 0x3B) whole ∙ by (eqb byte 0x3B) refl
  where
    by : (b : Bool) → eqb byte 0x3B ≡ b → eqb byte 0x3B ≡ false
    by true e = let clash : true ≡ false = sym start ∙ ap is_name_start (eqb-true byte 0x3B e) in absurd cc
    by false e = e

name_first : (w : Wanted) (rest : List ℕ) → HasName w → (slice_index (wanted_text w ++ rest) 0 == 0x3B) ≡ false
name_first None' rest has = absurd has
name_first (Number bytes n) rest has = refl
name_first (Banks source destination) rest has = absurd has
name_first (Label []) rest has = absurd has
name_first (Label (byte ∷ name)) rest has = no_semicolon ((byte ∷ name) ++ rest) byte (name ++ rest) refl has.0
name_first (Moved [] adds n) rest has = absurd has.0
name_first (Moved (byte ∷ name) adds n) rest has = no_semicolon (wanted_text (Moved (byte ∷ name) adds n) ++ rest) byte ((name ++ (sign_text adds ++ number_text 8 n)) ++ rest) refl has.0.0

pub first_is : (way : Mode) (w : Wanted) → TakesName way → HasName w → (slice_index (operand_text way w) 0 == 0x3B) ≡ false
unfolding listed.shape_of
first_is Implied w takes has = absurd takes
first_is Accumulator w takes has = absurd takes
first_is Move w takes has = absurd takes
first_is Stack w takes has = name_first w (codes ",S") has
first_is Relative8 w takes has = name_first w [] has
first_is Relative16 w takes has = name_first w [] has
first_is Signature w takes has = name_first w [] has
first_is _ w takes has = refl

-- what the table says of a mode with a name
pub record IsUsed (m : Mnemonic) (way : Mode) : Type 0 where
  pub some : is_never (use_of m) ≡ false
  pub other : IsOther way m

not_true : (b : Bool) → not b ≡ true → b ≡ false
not_true true e = absurd cc
not_true false e = refl

pub used_as : (m : Mnemonic) (way : Mode) → TakesName way → is_used (m, way) ≡ true → IsUsed m way
used_as m Implied takes is = absurd takes
used_as m Accumulator takes is = absurd takes
used_as m Move takes is = absurd takes
used_as m Relative8 takes is = let both = and_parts (not (is_never (use_of m))) (not (means_accumulator (use_of m))) is in record { some = not_true _ both.0; other = not_true _ both.1 }
used_as m Relative16 takes is = let both = and_parts (not (is_never (use_of m))) (not (means_accumulator (use_of m))) is in record { some = not_true _ both.0; other = not_true _ both.1 }
used_as m Signature takes is = let both = and_parts (not (is_never (use_of m))) (not (means_accumulator (use_of m))) is in record { some = not_true _ both.0; other = not_true _ both.1 }
used_as m _ takes is = record { some = not_true (is_never (use_of m)) is; other = tt }

pub taken_as : (way : OperandUse) (operand : List ℕ) → is_never way ≡ false → (slice_index operand 0 == 0x3B) ≡ false → IsTaken way operand
taken_as uses.Never operand some first = absurd cc
taken_as uses.Accumulator operand some first = first
taken_as uses.Signature operand some first = first
taken_as uses.Always operand some first = tt

pub use_is : (m : Mnemonic) → operation_use (spelling_of m) ≡ use_of m
unfolding operation_use
use_is m = rw ((spelled m).read, operation_use) refl

-- ---- what it gives

-- the name has no value
abbrev pub IsUnknown : Constants → Wanted → Type 0
IsUnknown constants None' = ⊥
IsUnknown constants (Number bytes n) = ⊥
IsUnknown constants (Banks source destination) = ⊥
IsUnknown constants (Label name) = constants name ≡ None
IsUnknown constants (Moved name adds n) = constants name ≡ None

-- the amount of a name without a value, alone and with a number
by_name : (name : List ℕ) (o : Option ℕ) → o ≡ None → amount_by (Leaf (number_or (expression.Named 0x83 name) o)) (number_or_open o) ≡ Ok (Written (Leaf (expression.Named 0x83 name)))
by_name name None is = refl
by_name name (Some n) is = absurd cc

by_moved : (code : ℕ) (name : List ℕ) (n : ℕ) (o : Option ℕ) → o ≡ None
    → amount_by (Binary code (Leaf (number_or (expression.Named 0x83 name) o)) (Leaf (expression.Constant n))) (constant.worth_of_two code (number_or_open o) (constant.Number n))
    ≡ Ok (Written (Binary code (Leaf (expression.Named 0x83 name)) (Leaf (expression.Constant n))))
by_moved code name n None is = refl
by_moved code name n (Some m) is = absurd cc

stays : (constants : Constants) (w : Wanted) → IsUnknown constants w → amount constants (tree_of w) ≡ Ok (Written (tree_of w))
unfolding amount constant.known_value
stays constants None' is = absurd is
stays constants (Number bytes n) is = absurd is
stays constants (Banks source destination) is = absurd is
stays constants (Label name) is = by_name name (constants name) is
stays constants (Moved name true n) is = by_moved 0x01 name n (constants name) is
stays constants (Moved name false n) is = by_moved 0x02 name n (constants name) is

same_mode : (way : Mode) → mode_of_tree way [] ≡ way
same_mode way = by (instructions.is_address 2 (kind_of way))
  where
    by : (b : Bool) → instructions.or_first way (cond b (Some way) None) ≡ way
    by true = refl
    by false = refl

pub no_shift : (way : Mode) → instructions.shift_in (kind_of way) (prefix_in way) ≡ 0
unfolding kind_of
no_shift Implied = refl
no_shift Accumulator = refl
no_shift Immediate = refl
no_shift Move = refl
no_shift Signature = refl
no_shift Relative8 = refl
no_shift Relative16 = refl
no_shift _ = refl

unplaced : (w : Wanted) → HasName w → with_location_less 1 (tree_of w) ≡ tree_of w
unplaced None' has = absurd has
unplaced (Number bytes n) has = refl
unplaced (Banks source destination) has = absurd has
unplaced (Label name) has = refl
unplaced (Moved name true n) has = refl
unplaced (Moved name false n) has = refl

held_gives : (constants : Constants) (widths : Widths) (k : ℕ) (m : Mnemonic) (way : Mode) (w : Wanted) → slice_get matrix k ≡ Some (m, way) → HasName w → IsUnknown constants w
    → (instruction constants widths m (meaning_in way w) >>= λ pieces. Ok (records_of pieces)) ≡ Ok (held_records widths k m way w)
unfolding instruction with_amount records_after
held_gives constants widths k m way w is has unknown =
    rw (instruction, one_mode k m way is, stays constants w unknown, same_mode way, no_shift way, unplaced w has, opcode_back k m way is) refl

-- ---- the line

small_tree : (w : Wanted) → HasName w → (pending 2 (tree_of w) ≤ 64) × ((has_large (tree_of w) || false) ≡ false)
small_tree None' has = absurd has
small_tree (Number bytes n) has = (omega arith, rw (lt-leb (2 ^ 32) n has) refl)
small_tree (Banks source destination) has = absurd has
small_tree (Label name) has = (omega arith, refl)
small_tree (Moved name true n) has = (omega arith, rw (lt-leb (2 ^ 32) n has.1) refl)
small_tree (Moved name false n) has = (omega arith, rw (lt-leb (2 ^ 32) n has.1) refl)

pub good_operand : (m : Mnemonic) (way : Mode) (w : Wanted) → TakesName way → HasName w → IsOther way m → IsOperandOf m (operand_text way w) (Ok (meaning_in way w))
good_operand m way w takes has other =
    Good (meaning_in way w) (record { is = operand_read m way w takes has other; shallow = ((small_tree w has).0, tt); small = (small_tree w has).1 }) refl

-- a byte that is held back and its record: the line gives the opcode and exactly this record
pub held_step : (state : State) (s : StartedSegment) (number k : ℕ) (m : Mnemonic) (way : Mode) (w : Wanted) → state.segment ≡ Some s → slice_get matrix k ≡ Some (m, way) → TakesName way → HasName w
    → IsUnknown (constants_of state) w → cells_of (with_local_record [] 0x4D (held_records state.widths k m way w) s) ≤ greatest_length s.class
    → IsStep state (line_of 0 number (said_text (Instructs m way w))) (Ok (in_segment (with_local_record [] 0x4D (held_records state.widths k m way w)) state))
unfolding said_text IsDone
held_step state s number k m way w here is takes has unknown room =
    let used = used_as m way takes (used_is k m way is) in
    let contents = held_records state.widths k m way w in
    let taken : IsTaken (operation_use (spelling_of m)) (operand_text way w) = rw (use_is m) (taken_as (use_of m) (operand_text way w) used.some (first_is way w takes has)) in
    step_of state number [] (spelling_of m) (operand_text way w) (Instruct m) (Ok (in_segment (with_local_record [] 0x4D contents) state)) tt (spelled m).named (operand_ink way w has) taken (operation_is m)
    (inside state s (line_of 0 number (statement_text [] (spelling_of m) (operand_text way w))) (Instruct m) [] (operand_text way w) (with_local_record [] 0x4D contents) here refl
    (Ok (meaning_in way w), good_operand m way w takes has used.other, rw (held_gives (constants_of state) state.widths k m way w is has unknown) refl) room)
