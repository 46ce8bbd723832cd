-- The law on one line, for instructions with constant bytes: a number, the accumulator, two banks.
use Rattle.std.proofs.Common.{◌≡◌, ℕ, ◌-◌, ◌/◌, ◌^◌, ◌<◌, ◌≤◌, Bool, true, false, cond, leb, List, [], ◌∷◌, ◌++◌, length, Some, Ok, refl, sym, subst, arith, append-nil}
use Rattle.std.specs.Prelude.{not, codes, slice_get}
use Rattle.std.proofs.lemmas.Bool.{lt-ltb, lt-leb, le-leb}
use Rattle.byteorder.specs.Endian.{little_bytes}
use Rattle.byteorder.specs.Numbers.{length-bytes_low_first}
use Rattle.omf_format.specs.Expression as expression
use Rattle.omf_format.specs.Expression.{Leaf}
use Rattle.omf_format.specs.Field.{◌>>=◌}
use Rattle.omf_format.specs.Record.{Record, Const}
use Rattle.orca_meaning.specs.declared.forms.OperandUse.{OperandUse}
use Rattle.orca_meaning.specs.declared.forms.Form.TheVariants as forms
use Rattle.orca_meaning.specs.declared.forms.Prefix.TheVariants.{Bare}
use Rattle.orca_meaning.specs.declared.mnemonics.Mnemonic.{Mnemonic}
use Rattle.orca_meaning.specs.declared.modes.Mode.{Mode}
use Rattle.orca_meaning.specs.declared.modes.Mode.TheVariants as modes
use Rattle.orca_meaning.specs.Length as lengths
use Rattle.orca_meaning.specs.Line.{line_of}
use Rattle.orca_meaning.specs.Matrix.{matrix}
use Rattle.orca_meaning.specs.declared.forms.OperandUse.TheVariants as uses
use Rattle.orca_meaning.specs.declared.operators.Operands.TheVariants.{Labels}
use Rattle.orca_meaning.specs.Formula.{MeansAt}
use Rattle.orca_meaning.specs.Token as tokens
use Rattle.orca_meaning.specs.Operand as operands
use Rattle.orca_meaning.specs.Operand.{Meaning, IsInAccumulator, IsTwo, is_accumulator}
use Rattle.orca_meaning.specs.laws.Steps.{means_accumulator}
use Rattle.orca_meaning.specs.Operation.{use_of, operation_use}
use Rattle.asm_meaning.specs.declared.directives.Operation.TheVariants.{Instruct}
use Rattle.asm_meaning.specs.Constant as constant
use Rattle.asm_meaning.specs.Constant.{Constants, Known, amount}
use Rattle.asm_meaning.specs.Instruction as instructions
use Rattle.asm_meaning.specs.Instruction.{Widths, instruction, kind_of, operand_bytes, with_amount, without_amount}
use Rattle.asm_meaning.specs.Pieces.{records_of, records_after}
use Rattle.asm_meaning.specs.State.{State, StartedSegment, cells_of, greatest_length, with_local_record, in_segment}
use Rattle.asm_meaning.specs.Statement.{IsStep, IsDone, IsOperandOf, Good, constants_of}
use Rattle.list_laws.specs.laws.LineText.{HasNoBlank, IsTaken}
use Rattle.list_meaning.specs.Listed.{statement_text}
use Rattle.list_meaning.specs.Listed as listed
use Rattle.list_meaning.specs.Listed.{Number, Instructs, said_text, spelling_of}
use Rattle.list_meaning.specs.laws.Steps.{operand_text}
use Rattle.list_laws.specs.laws.Spelled.{spelled}
use Rattle.list_laws.specs.laws.ModeLaw.{accumulates, moves_alone, prefix_in, one_mode, opcode_back, used_is, is_never}
use Rattle.list_laws.specs.laws.OperandLaw.{TakesName, meaning_in}
use Rattle.list_laws.specs.laws.LineLaw.{step_of, inside, operation_is, number_ink}
use Rattle.list_laws.specs.laws.ConstantLines.{ink_push}
use Rattle.list_laws.specs.laws.Numbers.{number_means}
use Rattle.list_meaning.specs.Listed.{number_text}
use Rattle.list_laws.specs.laws.HeldLaw.{operand_ink, first_is, used_as, taken_as, use_is, good_operand, no_shift}

-- which modes have a number as their operand
abbrev pub TakesNumber : Mode → Type 0
TakesNumber modes.Implied = ⊥
TakesNumber modes.Accumulator = ⊥
TakesNumber modes.Move = ⊥
TakesNumber modes.Relative8 = ⊥
TakesNumber modes.Relative16 = ⊥
TakesNumber _ = Unit {0}

takes_name : (way : Mode) → TakesNumber way → TakesName way
takes_name modes.Implied takes = takes
takes_name modes.Accumulator takes = takes
takes_name modes.Move takes = takes
takes_name modes.Relative8 takes = tt
takes_name modes.Relative16 takes = tt
takes_name modes.Immediate takes = tt
takes_name modes.Direct takes = tt
takes_name modes.DirectX takes = tt
takes_name modes.DirectY takes = tt
takes_name modes.DirectIndirect takes = tt
takes_name modes.DirectIndirectY takes = tt
takes_name modes.DirectXIndirect takes = tt
takes_name modes.DirectLong takes = tt
takes_name modes.DirectLongY takes = tt
takes_name modes.Stack takes = tt
takes_name modes.StackIndirectY takes = tt
takes_name modes.Absolute takes = tt
takes_name modes.AbsoluteX takes = tt
takes_name modes.AbsoluteY takes = tt
takes_name modes.AbsoluteIndirect takes = tt
takes_name modes.AbsoluteXIndirect takes = tt
takes_name modes.AbsoluteLongIndirect takes = tt
takes_name modes.Long takes = tt
takes_name modes.LongX takes = tt
takes_name modes.Signature takes = tt

-- what fits its bytes is held
holds_it : (w : Widths) (m : Mnemonic) (way : Mode) (n : ℕ) → TakesNumber way → n < 256 ^ operand_bytes w m way → instructions.is_operand_of_width (prefix_in way) (kind_of way) (operand_bytes w m way) n ≡ true
unfolding kind_of operand_bytes lengths.length_of
holds_it w m modes.Implied n takes fits = absurd takes
holds_it w m modes.Accumulator n takes fits = absurd takes
holds_it w m modes.Move n takes fits = absurd takes
holds_it w m modes.Relative8 n takes fits = absurd takes
holds_it w m modes.Relative16 n takes fits = absurd takes
holds_it w m modes.Immediate n takes fits = rw (lt-ltb n (256 ^ operand_bytes w m modes.Immediate) fits) refl
holds_it w m modes.Signature n takes fits = lt-ltb n 256 fits
holds_it w m modes.Direct n takes fits = lt-ltb n 256 fits
holds_it w m modes.DirectX n takes fits = lt-ltb n 256 fits
holds_it w m modes.DirectY n takes fits = lt-ltb n 256 fits
holds_it w m modes.DirectIndirect n takes fits = lt-ltb n 256 fits
holds_it w m modes.DirectIndirectY n takes fits = lt-ltb n 256 fits
holds_it w m modes.DirectXIndirect n takes fits = lt-ltb n 256 fits
holds_it w m modes.DirectLong n takes fits = lt-ltb n 256 fits
holds_it w m modes.DirectLongY n takes fits = lt-ltb n 256 fits
holds_it w m modes.Stack n takes fits = lt-ltb n 256 fits
holds_it w m modes.StackIndirectY n takes fits = lt-ltb n 256 fits
holds_it w m modes.Absolute n takes fits = lt-ltb n 65536 fits
holds_it w m modes.AbsoluteX n takes fits = lt-ltb n 65536 fits
holds_it w m modes.AbsoluteY n takes fits = lt-ltb n 65536 fits
holds_it w m modes.AbsoluteIndirect n takes fits = lt-ltb n 65536 fits
holds_it w m modes.AbsoluteXIndirect n takes fits = lt-ltb n 65536 fits
holds_it w m modes.AbsoluteLongIndirect n takes fits = lt-ltb n 65536 fits
holds_it w m modes.Long n takes fits = lt-ltb n 16777216 fits
holds_it w m modes.LongX n takes fits = lt-ltb n 16777216 fits

no_distance : (way : Mode) → TakesNumber way → instructions.is_distance (kind_of way) ≡ false
unfolding kind_of
no_distance modes.Relative8 takes = absurd takes
no_distance modes.Relative16 takes = absurd takes
no_distance _ takes = refl

pub few_bytes : (w : Widths) (m : Mnemonic) (way : Mode) → operand_bytes w m way ≤ 3
unfolding operand_bytes lengths.length_of
few_bytes w m modes.Immediate = by (lengths.has_long_operand m w.long_a w.long_i)
  where
    by : (b : Bool) → cond b 3 2 - 1 ≤ 3
    by true = omega arith
    by false = omega arith
few_bytes w m modes.Implied = omega arith
few_bytes w m modes.Accumulator = omega arith
few_bytes w m modes.Move = omega arith
few_bytes w m modes.Long = omega arith
few_bytes w m modes.LongX = omega arith
few_bytes w m _ = omega arith

known : (constants : Constants) (n : ℕ) → amount constants (Leaf (expression.Constant n)) ≡ Ok (Known n)
unfolding amount constant.known_value
known constants n = refl

-- the opcode and the bytes of the number
abbrev pub number_records : Widths → ℕ → Mnemonic → Mode → ℕ → List Record
number_records w k m way n = Const (k ∷ little_bytes (operand_bytes w m way) n) ∷ []

number_gives : (constants : Constants) (w : Widths) (k : ℕ) (m : Mnemonic) (way : Mode) (n : ℕ) → slice_get matrix k ≡ Some (m, way) → TakesNumber way → n < 256 ^ operand_bytes w m way
    → (instruction constants w m (meaning_in way (Number (operand_bytes w m way) n)) >>= λ pieces. Ok (records_of pieces)) ≡ Ok (number_records w k m way n)
unfolding instruction with_amount records_after
number_gives constants w k m way n is takes fits =
    let same : n / 2 ^ 0 ≡ n = omega arith in
    let few : leb (length (k ∷ little_bytes (operand_bytes w m way) n)) 223 ≡ true = le-leb (length (k ∷ little_bytes (operand_bytes w m way) n)) 223 (omega (arith, length-bytes_low_first 0 (operand_bytes w m way) n, few_bytes w m way)) in
    rw (instruction, instructions.mode_of_number, one_mode k m way is, known constants n, holds_it w m way n takes fits, no_distance way takes, no_shift way, opcode_back k m way is, same, few) refl

pub number_step : (state : State) (s : StartedSegment) (number k : ℕ) (m : Mnemonic) (way : Mode) (n : ℕ) → state.segment ≡ Some s → slice_get matrix k ≡ Some (m, way) → TakesNumber way → n < 2 ^ 32
    → n < 256 ^ operand_bytes state.widths m way → cells_of (with_local_record [] 0x4D (number_records state.widths k m way n) s) ≤ greatest_length s.class
    → IsStep state (line_of 0 number (said_text (Instructs m way (Number (operand_bytes state.widths m way) n)))) (Ok (in_segment (with_local_record [] 0x4D (number_records state.widths k m way n)) state))
unfolding said_text IsDone
number_step state s number k m way n here is takes small fits room =
    let w = Number (operand_bytes state.widths m way) n in
    let name = takes_name way takes in
    let used = used_as m way name (used_is k m way is) in
    let contents = number_records state.widths k m way n in
    let taken : IsTaken (operation_use (spelling_of m)) (operand_text way w) = rw (use_is m) (taken_as (use_of m) (operand_text way w) used.some (first_is way w name small)) in
    step_of state number [] (spelling_of m) (operand_text way w) (Instruct m) (Ok (in_segment (with_local_record [] 0x4D contents) state)) tt (spelled m).named (operand_ink way w small) taken (operation_is m)
    (inside state s (line_of 0 number (statement_text [] (spelling_of m) (operand_text way w))) (Instruct m) [] (operand_text way w) (with_local_record [] 0x4D contents) here refl
    (Ok (meaning_in way w), good_operand m way w name small used.other, rw (number_gives (constants_of state) state.widths k m way n is takes fits) refl) room)

-- ---- the accumulator

gathered : Meaning
gathered = record { form = forms.Accumulator; prefix = Bare; trees = [] }

is_gathered_operand : (m : Mnemonic) → means_accumulator (use_of m) ≡ true → IsOperandOf m (codes "A") (Ok gathered)
unfolding gathered
is_gathered_operand m means = Good (record { form = forms.Accumulator; prefix = Bare; trees = [] }) (record { is = IsInAccumulator (rw means refl) refl; shallow = tt; small = refl }) refl

gathered_gives : (constants : Constants) (w : Widths) (k : ℕ) (m : Mnemonic) → slice_get matrix k ≡ Some (m, modes.Accumulator)
    → (instruction constants w m gathered >>= λ pieces. Ok (records_of pieces)) ≡ Ok (Const (k ∷ []) ∷ [])
unfolding gathered instruction without_amount operand_bytes lengths.length_of records_after
gathered_gives constants w k m is = rw (instruction, one_mode k m modes.Accumulator is, opcode_back k m modes.Accumulator is) refl

taken_a : (way : OperandUse) → is_never way ≡ false → IsTaken way (codes "A")
taken_a way some = taken_as way (codes "A") some refl

pub accumulator_step : (state : State) (s : StartedSegment) (number k : ℕ) (m : Mnemonic) → state.segment ≡ Some s → slice_get matrix k ≡ Some (m, modes.Accumulator)
    → cells_of (with_local_record [] 0x4D (Const (k ∷ []) ∷ []) s) ≤ greatest_length s.class
    → IsStep state (line_of 0 number (said_text (Instructs m modes.Accumulator listed.None'))) (Ok (in_segment (with_local_record [] 0x4D (Const (k ∷ []) ∷ [])) state))
unfolding said_text IsDone listed.shape_of
accumulator_step state s number k m here is room =
    let means = accumulates k m is in
    let some : is_never (use_of m) ≡ false = by (use_of m) means in
    let taken : IsTaken (operation_use (spelling_of m)) (codes "A") = rw (use_is m) (taken_a (use_of m) some) in
    step_of state number [] (spelling_of m) (codes "A") (Instruct m) (Ok (in_segment (with_local_record [] 0x4D (Const (k ∷ []) ∷ [])) state)) tt (spelled m).named (refl, tt) taken (operation_is m)
    (inside state s (line_of 0 number (statement_text [] (spelling_of m) (codes "A"))) (Instruct m) [] (codes "A") (with_local_record [] 0x4D (Const (k ∷ []) ∷ [])) here refl
    (Ok gathered, is_gathered_operand m means, rw (gathered_gives (constants_of state) state.widths k m is) refl) room)
  where
    by : (way : OperandUse) → means_accumulator way ≡ true → is_never way ≡ false
    by uses.Never e = absurd cc
    by uses.Accumulator e = refl
    by uses.Signature e = refl
    by uses.Always e = refl

-- ---- two banks

banks_text : (source destination : ℕ) → operand_text modes.Move (listed.Banks source destination) ≡ number_text 2 source ++ (0x2C ∷ number_text 2 destination)
unfolding listed.shape_of
banks_text source destination = append-nil (number_text 2 source ++ (0x2C ∷ number_text 2 destination))

banks_meaning : ℕ → ℕ → Meaning
banks_meaning source destination = record { form = forms.Pair; prefix = Bare; trees = Leaf (expression.Constant source) ∷ Leaf (expression.Constant destination) ∷ [] }

not_true : (b : Bool) → not b ≡ true → b ≡ false
not_true true e = absurd cc
not_true false e = refl

is_banks_operand : (m : Mnemonic) (source destination : ℕ) → not (means_accumulator (use_of m)) ≡ true → source < 256 → destination < 256
    → IsOperandOf m (number_text 2 source ++ (0x2C ∷ number_text 2 destination)) (Ok (banks_meaning source destination))
unfolding banks_meaning operands.whole_index operands.index_at tokens.operator_at tokens.spelled_at
is_banks_operand m source destination alone low high =
    let text = number_text 2 source ++ (0x2C ∷ number_text 2 destination) in
    let following = number_text 2 destination in
    let a : source < 2 ^ 32 = omega (arith, low) in
    let b : destination < 2 ^ 32 = omega (arith, high) in
    let other : is_accumulator (Some m) text ≡ false = rw (not_true (means_accumulator (use_of m)) alone) refl in
    Good (record { form = forms.Pair; prefix = Bare; trees = Leaf (expression.Constant source) ∷ Leaf (expression.Constant destination) ∷ [] })
    (record {
      is = IsTwo other refl (Leaf (expression.Constant source)) (Leaf (expression.Constant destination)) following (number_means 2 source (0x2C ∷ following) a refl refl) refl
          (subst (λ (l : List ℕ). MeansAt Labels l (Leaf (expression.Constant destination)) []) (append-nil following) (number_means 2 destination [] b tt refl)) refl;
      shallow = (omega arith, (omega arith, tt));
      small = rw (lt-leb (2 ^ 32) source a, lt-leb (2 ^ 32) destination b) refl;
    }) refl

banks_gives : (constants : Constants) (w : Widths) (k : ℕ) (m : Mnemonic) (source destination : ℕ) → slice_get matrix k ≡ Some (m, modes.Move) → source < 256 → destination < 256
    → (instruction constants w m (banks_meaning source destination) >>= λ pieces. Ok (records_of pieces)) ≡ Ok (Const (k ∷ destination ∷ source ∷ []) ∷ [])
unfolding banks_meaning instruction records_after
banks_gives constants w k m source destination is low high =
    rw (instruction, one_mode k m modes.Move is, known constants source, known constants destination, lt-ltb source 256 low, lt-ltb destination 256 high, opcode_back k m modes.Move is) refl

pub banks_step : (state : State) (s : StartedSegment) (number k : ℕ) (m : Mnemonic) (source destination : ℕ) → state.segment ≡ Some s → slice_get matrix k ≡ Some (m, modes.Move) → source < 256 → destination < 256
    → cells_of (with_local_record [] 0x4D (Const (k ∷ destination ∷ source ∷ []) ∷ []) s) ≤ greatest_length s.class
    → IsStep state (line_of 0 number (said_text (Instructs m modes.Move (listed.Banks source destination)))) (Ok (in_segment (with_local_record [] 0x4D (Const (k ∷ destination ∷ source ∷ []) ∷ [])) state))
unfolding said_text IsDone
banks_step state s number k m source destination here is low high room =
    let text = number_text 2 source ++ (0x2C ∷ number_text 2 destination) in
    let contents = Const (k ∷ destination ∷ source ∷ []) ∷ [] in
    let some : is_never (use_of m) ≡ false = not_true (is_never (use_of m)) (used_is k m modes.Move is) in
    let taken : IsTaken (operation_use (spelling_of m)) text = rw (use_is m) (taken_as (use_of m) text some refl) in
    let ink : HasNoBlank text = ink_push (number_text 2 source) (0x2C ∷ number_text 2 destination) (number_ink 2 source (omega (arith, low))) (refl, number_ink 2 destination (omega (arith, high))) in
    subst (λ (l : List ℕ). IsStep state (line_of 0 number (statement_text [] (spelling_of m) l)) (Ok (in_segment (with_local_record [] 0x4D contents) state))) (sym (banks_text source destination))
    (step_of state number [] (spelling_of m) text (Instruct m) (Ok (in_segment (with_local_record [] 0x4D contents) state)) tt (spelled m).named ink taken (operation_is m)
    (inside state s (line_of 0 number (statement_text [] (spelling_of m) text)) (Instruct m) [] text (with_local_record [] 0x4D contents) here refl
    (Ok (banks_meaning source destination), is_banks_operand m source destination (moves_alone k m is) low high, rw (banks_gives (constants_of state) state.widths k m source destination is low high) refl) room))
