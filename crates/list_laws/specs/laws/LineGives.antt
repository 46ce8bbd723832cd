-- The law on one line: each line inside a segment has no fault, and leaves what it was written for.
use Rattle.std.proofs.Common.{◌≡◌, ℕ, ◌-◌, ◌^◌, ◌<◌, ◌≤◌, Bool, true, false, List, [], ◌∷◌, ◌++◌, length, Option, Some, None, Ok, refl, sym, ap, subst, ◌∙◌, arith}
use Rattle.std.specs.Prelude.{is_some, slice_get}
use Rattle.std.specs.Int.{is_power_of_two}
use Rattle.std.specs.Option.{option_map}
use Rattle.byteorder.specs.Endian.{little_bytes}
use Rattle.omf_format.specs.Header.{alignment_of, form_of, is_listed}
use Rattle.omf_format.specs.Record as records
use Rattle.omf_format.specs.Record.{Record}
use Rattle.orca_meaning.specs.declared.mnemonics.Mnemonic.{Mnemonic}
use Rattle.orca_meaning.specs.declared.modes.Mode.{Mode}
use Rattle.orca_meaning.specs.declared.modes.Mode.TheVariants as modes
use Rattle.orca_meaning.specs.Formula.{pending}
use Rattle.orca_meaning.specs.Line.{line_of}
use Rattle.orca_meaning.specs.Matrix.{matrix}
use Rattle.orca_meaning.specs.Operation.{has_mode}
use Rattle.orca_meaning.specs.Names.{with_name}
use Rattle.asm_meaning.specs.declared.directives.Switch.{Switch}
use Rattle.asm_meaning.specs.declared.directives.Switch.TheVariants.{LongA, LongI, Msb}
use Rattle.asm_meaning.specs.Constant.{Constants}
use Rattle.asm_meaning.specs.Instruction.{Widths, operand_bytes, opcode_in}
use Rattle.asm_meaning.specs.Pieces.{place_after, length_at}
use Rattle.asm_meaning.specs.State.{State, StartedSegment, cells_of, greatest_length, with_local_record, with_records, in_segment, local_of, with_switch_set, Names, with_label}
use Rattle.asm_meaning.specs.Statement.{IsStep, constants_of, with_kind}
use Rattle.list_meaning.specs.Listed.{ListedStatement, NextAlignIs, NextOrg, StartIs, KindIs, SwitchIs, Ds, Aligns, OrgIs, UsingIs, StrongIs, Labels, Equates, Instructs, Bytes, WeakIs, FormulaIs, EndIs, Wanted, None', Number, Banks, Label, Moved, said_text}
use Rattle.list_laws.specs.Given.{instruction_records, records_said, names_said, widths_said, msb_said, header_said, Leaves}
use Rattle.list_laws.specs.laws.FormulaLaw.{CanWrite, IsPlainName}
use Rattle.list_laws.specs.laws.OperandLaw.{TakesName, HasName}
use Rattle.list_laws.specs.laws.SumLaw.{AreUnknown, has_open}
use Rattle.list_laws.specs.laws.HeldLaw.{IsUnknown, held_step}
use Rattle.list_laws.specs.laws.LineLaw.{spaces_step, implied_step}
use Rattle.list_laws.specs.laws.MoreLines.{local_step, global_step, using_step, turns_step, align_step, move_step, kind_step, equ_step, gequ_step}
use Rattle.list_laws.specs.laws.ConstantLines.{IsCount, asks_step, weakly_step, sums_step}
use Rattle.list_laws.specs.laws.BytesLine.{AreBytes, bytes_step}
use Rattle.list_laws.specs.laws.NumberLine.{TakesNumber, number_records, number_step, accumulator_step, banks_step}

-- ---- which lines are allowed there

-- a name that the segment doesn't define yet
abbrev pub IsFree : StartedSegment → List ℕ → Type 0
IsFree s name = IsPlainName name × (is_some (s.names name) ≡ false)

-- the instruction has an opcode, and its operand fits it
abbrev pub FitsOperand : Constants → Widths → Mnemonic → Mode → Wanted → Type 0
FitsOperand constants w m modes.Implied None' = has_mode m modes.Implied ≡ true
FitsOperand constants w m modes.Accumulator None' = Unit {0}
FitsOperand constants w m _ None' = ⊥
FitsOperand constants w m way (Number bytes n) = TakesNumber way × (bytes ≡ operand_bytes w m way) × (n < 256 ^ bytes) × (n < 2 ^ 32)
FitsOperand constants w m modes.Move (Banks source destination) = (source < 256) × (destination < 256)
FitsOperand constants w m _ (Banks source destination) = ⊥
FitsOperand constants w m way (Label name) = TakesName way × HasName (Label name) × IsUnknown constants (Label name)
FitsOperand constants w m way (Moved name adds n) = TakesName way × HasName (Moved name adds n) × IsUnknown constants (Moved name adds n)

abbrev pub IsInstruction : Constants → Widths → Mnemonic → Mode → Wanted → Type 0
IsInstruction constants w m way operand = (slice_get matrix (opcode_in m way) ≡ Some (m, way)) × FitsOperand constants w m way operand

abbrev pub AreSome : List ℕ → Type 0
AreSome [] = ⊥
AreSome (byte ∷ bytes) = Unit {0}

-- a line that the lister may write inside a segment
abbrev pub CanStand : State → StartedSegment → ListedStatement → Type 0
CanStand state s (NextAlignIs n) = ⊥
CanStand state s (NextOrg n) = ⊥
CanStand state s (StartIs crosses name load_name) = ⊥
CanStand state s (KindIs n) = (n ≤ 0xFFFF) × (is_listed (form_of n) ≡ true)
CanStand state s (SwitchIs switch on) = Unit {0}
CanStand state s (Ds n) = n < 2 ^ 32
CanStand state s (Aligns n) = (n < 2 ^ 32) × (is_power_of_two n ≡ true) × (n ≤ alignment_of s.header.align)
CanStand state s (OrgIs n) = n < 2 ^ 31
CanStand state s (UsingIs name) = IsPlainName name
CanStand state s (StrongIs name) = IsPlainName name
CanStand state s (Labels global name) = IsFree s name
CanStand state s (Equates global name n) = IsFree s name × (n < 2 ^ 32)
CanStand state s (Instructs m way operand) = IsInstruction (constants_of state) state.widths m way operand
CanStand state s (Bytes bytes) = AreSome bytes × AreBytes bytes × (length bytes ≤ 223)
CanStand state s (WeakIs name) = IsPlainName name
CanStand state s (FormulaIs count tree) = IsCount count × CanWrite tree × AreUnknown (constants_of state) tree × (has_open tree ≡ true) × (pending 1 tree ≤ 64)
CanStand state s EndIs = ⊥

-- ---- what is left

-- a line's answer, and what it leaves
pub record Stands (said : ListedStatement) (state : State) (s : StartedSegment) (number : ℕ) : Type 0 where
  pub next : State
  pub step : IsStep state (line_of 0 number (said_text said)) (Ok next)
  pub leaves : Leaves said state s next

-- records after those of the segment, with no label
left_marked : (said : ListedStatement) (state : State) (s : StartedSegment) (number form : ℕ) (contents : List Record) → state.segment ≡ Some s
    → records_said state.widths said ≡ contents → names_said said s.names ≡ s.names → widths_said said state.widths ≡ state.widths → msb_said said state.msb ≡ state.msb → header_said said s.header ≡ s.header
    → IsStep state (line_of 0 number (said_text said)) (Ok (in_segment (with_local_record [] form contents) state)) → Stands said state s number
left_marked said state s number form contents here gives names widths msb header step = record {
  next = in_segment (with_local_record [] form contents) state;
  step = step;
  leaves = record {
    after = with_local_record [] form contents s;
    here = ap (option_map (with_local_record [] form contents)) here;
    start_line = refl;
    class = refl;
    header = sym header;
    names = sym names;
    body = ap (λ (l : List Record). s.body ++ l) (sym gives);
    widths = sym widths;
    msb = sym msb;
    outside = refl;
    org = refl;
    align = refl;
    front = refl;
    ended = refl;
  };
}

same_local : (name : List ℕ) (at : ℕ) → IsPlainName name → local_of name 0x4E (length_at at []) ++ [] ≡ records.Label false name 0 0x4E 0 ∷ []
unfolding length_at place_after
same_local [] at is = absurd is
same_local (byte ∷ name) at is = let none : at - at ≡ 0 = omega arith in rw none refl

same_label : (name : List ℕ) (value : Option ℕ) (names : Names) → IsPlainName name → with_label name value names ≡ with_name name value names
same_label [] value names is = absurd is
same_label (byte ∷ name) value names is = refl

-- LOCAL
left_local : (state : State) (s : StartedSegment) (number : ℕ) (name : List ℕ) → state.segment ≡ Some s → IsPlainName name
    → IsStep state (line_of 0 number (said_text (Labels false name))) (Ok (in_segment (with_local_record name 0x4E []) state)) → Stands (Labels false name) state s number
left_local state s number name here is step = record {
  next = in_segment (with_local_record name 0x4E []) state;
  step = step;
  leaves = record {
    after = with_local_record name 0x4E [] s;
    here = ap (option_map (with_local_record name 0x4E [])) here;
    start_line = refl;
    class = refl;
    header = refl;
    names = same_label name None s.names is;
    body = ap (λ (l : List Record). s.body ++ l) (same_local name (cells_of s) is);
    widths = refl;
    msb = refl;
    outside = refl;
    org = refl;
    align = refl;
    front = refl;
    ended = refl;
  };
}

-- one record and a name that may be a constant
left_grown : (said : ListedStatement) (state : State) (s : StartedSegment) (number : ℕ) (name : List ℕ) (value : Option ℕ) (front contents : List Record) → state.segment ≡ Some s → IsPlainName name
    → records_said state.widths said ≡ front ++ contents → names_said said s.names ≡ with_name name value s.names → widths_said said state.widths ≡ state.widths → msb_said said state.msb ≡ state.msb → header_said said s.header ≡ s.header
    → IsStep state (line_of 0 number (said_text said)) (Ok (in_segment (with_records name value front contents) state)) → Stands said state s number
left_grown said state s number name value front contents here is gives names widths msb header step = record {
  next = in_segment (with_records name value front contents) state;
  step = step;
  leaves = record {
    after = with_records name value front contents s;
    here = ap (option_map (with_records name value front contents)) here;
    start_line = refl;
    class = refl;
    header = sym header;
    names = same_label name value s.names is ∙ sym names;
    body = ap (λ (l : List Record). s.body ++ l) (sym gives);
    widths = sym widths;
    msb = sym msb;
    outside = refl;
    org = refl;
    align = refl;
    front = refl;
    ended = refl;
  };
}

-- LONGA and LONGI
left_turned : (state : State) (s : StartedSegment) (number : ℕ) (switch : Switch) (on : Bool) → state.segment ≡ Some s
    → IsStep state (line_of 0 number (said_text (SwitchIs switch on))) (Ok (with_switch_set switch on (in_segment (with_local_record [] 0x4E []) state))) → Stands (SwitchIs switch on) state s number
left_turned state s number switch on here step = by switch step
  where
    by : (switch : Switch) → IsStep state (line_of 0 number (said_text (SwitchIs switch on))) (Ok (with_switch_set switch on (in_segment (with_local_record [] 0x4E []) state))) → Stands (SwitchIs switch on) state s number
    by LongA step = record {
      next = with_switch_set LongA on (in_segment (with_local_record [] 0x4E []) state);
      step = step;
      leaves = record {
        after = with_local_record [] 0x4E [] s;
        here = ap (option_map (with_local_record [] 0x4E [])) here;
        start_line = refl;
        class = refl;
        header = refl;
        names = refl;
        body = refl;
        widths = refl;
        msb = refl;
        outside = refl;
        org = refl;
        align = refl;
        front = refl;
        ended = refl;
      };
    }
    by LongI step = record {
      next = with_switch_set LongI on (in_segment (with_local_record [] 0x4E []) state);
      step = step;
      leaves = record {
        after = with_local_record [] 0x4E [] s;
        here = ap (option_map (with_local_record [] 0x4E [])) here;
        start_line = refl;
        class = refl;
        header = refl;
        names = refl;
        body = refl;
        widths = refl;
        msb = refl;
        outside = refl;
        org = refl;
        align = refl;
        front = refl;
        ended = refl;
      };
    }
    by Msb step = record {
      next = with_switch_set Msb on (in_segment (with_local_record [] 0x4E []) state);
      step = step;
      leaves = record {
        after = with_local_record [] 0x4E [] s;
        here = ap (option_map (with_local_record [] 0x4E [])) here;
        start_line = refl;
        class = refl;
        header = refl;
        names = refl;
        body = refl;
        widths = refl;
        msb = refl;
        outside = refl;
        org = refl;
        align = refl;
        front = refl;
        ended = refl;
      };
    }

-- KIND
left_kind : (state : State) (s : StartedSegment) (number n : ℕ) → state.segment ≡ Some s
    → IsStep state (line_of 0 number (said_text (KindIs n))) (Ok (in_segment (λ s. with_kind n (with_local_record [] 0x4E [] s)) state)) → Stands (KindIs n) state s number
left_kind state s number n here step = record {
  next = in_segment (λ s. with_kind n (with_local_record [] 0x4E [] s)) state;
  step = step;
  leaves = record {
    after = with_kind n (with_local_record [] 0x4E [] s);
    here = ap (option_map (λ s. with_kind n (with_local_record [] 0x4E [] s))) here;
    start_line = refl;
    class = refl;
    header = refl;
    names = refl;
    body = refl;
    widths = refl;
    msb = refl;
    outside = refl;
    org = refl;
    align = refl;
    front = refl;
    ended = refl;
  };
}

-- ---- the law

-- a line that is allowed there, in a segment that it doesn't make too long
abbrev pub Room : State → StartedSegment → ListedStatement → Type 0
Room state s said = place_after 0 (s.body ++ records_said state.widths said) ≤ greatest_length s.class

number_records_same : (w : Widths) (m : Mnemonic) (way : Mode) (bytes n : ℕ) → bytes ≡ operand_bytes w m way
    → number_records w (opcode_in m way) m way n ≡ instruction_records w m way (Number bytes n)
number_records_same w m way bytes n same = ap (λ (k : ℕ). records.Const (opcode_in m way ∷ little_bytes k n) ∷ []) (sym same)

line_instruction : (state : State) (s : StartedSegment) (number : ℕ) (m : Mnemonic) (way : Mode) (operand : Wanted) → state.segment ≡ Some s
    → IsInstruction (constants_of state) state.widths m way operand → Room state s (Instructs m way operand) → Stands (Instructs m way operand) state s number
line_instruction state s number m modes.Implied None' here can room =
    left_marked (Instructs m modes.Implied None') state s number 0x4D (instruction_records state.widths m modes.Implied None') here refl refl refl refl refl (implied_step state s number m here can.1 room)
line_instruction state s number m modes.Accumulator None' here can room =
    left_marked (Instructs m modes.Accumulator None') state s number 0x4D (instruction_records state.widths m modes.Accumulator None') here refl refl refl refl refl
    (accumulator_step state s number (opcode_in m modes.Accumulator) m here can.0 room)
line_instruction state s number m way (Number bytes n) here can room =
    let w = state.widths in
    let size = can.1.1 in
    let contents = number_records w (opcode_in m way) m way n in
    let same = number_records_same w m way bytes n size in
    let fits : n < 256 ^ operand_bytes w m way = subst (λ (k : ℕ). n < 256 ^ k) size can.1.2 in
    let fit : place_after 0 (s.body ++ contents) ≤ greatest_length s.class = subst (λ (l : List Record). place_after 0 (s.body ++ l) ≤ greatest_length s.class) (sym same) room in
    left_marked (Instructs m way (Number bytes n)) state s number 0x4D contents here (sym same) refl refl refl refl
    (subst (λ (k : ℕ). IsStep state (line_of 0 number (said_text (Instructs m way (Number k n)))) (Ok (in_segment (with_local_record [] 0x4D contents) state))) (sym size)
    (number_step state s number (opcode_in m way) m way n here can.0 can.1.0 can.1.3 fits fit))
line_instruction state s number m modes.Move (Banks source destination) here can room =
    left_marked (Instructs m modes.Move (Banks source destination)) state s number 0x4D (instruction_records state.widths m modes.Move (Banks source destination)) here refl refl refl refl refl
    (banks_step state s number (opcode_in m modes.Move) m source destination here can.0 can.1.0 can.1.1 room)
line_instruction state s number m way (Label name) here can room =
    left_marked (Instructs m way (Label name)) state s number 0x4D (instruction_records state.widths m way (Label name)) here refl refl refl refl refl
    (held_step state s number (opcode_in m way) m way (Label name) here can.0 can.1.0 can.1.1 can.1.2 room)
line_instruction state s number m way (Moved name adds n) here can room =
    left_marked (Instructs m way (Moved name adds n)) state s number 0x4D (instruction_records state.widths m way (Moved name adds n)) here refl refl refl refl refl
    (held_step state s number (opcode_in m way) m way (Moved name adds n) here can.0 can.1.0 can.1.1 can.1.2 room)
line_instruction state s number m _ None' here can room = absurd can.1
line_instruction state s number m _ (Banks source destination) here can room = absurd can.1

-- the law on one line
pub line_gives : (state : State) (s : StartedSegment) (number : ℕ) (said : ListedStatement) → state.segment ≡ Some s → CanStand state s said → Room state s said → Stands said state s number
line_gives state s number (NextAlignIs n) here can room = absurd can
line_gives state s number (NextOrg n) here can room = absurd can
line_gives state s number (StartIs crosses name load_name) here can room = absurd can
line_gives state s number (KindIs n) here can room = left_kind state s number n here (kind_step state s number n here can.0 can.1 room)
line_gives state s number (SwitchIs switch on) here can room = left_turned state s number switch on here (turns_step state s number switch on here room)
line_gives state s number (Ds n) here can room = left_marked (Ds n) state s number 0x4E (records.Space n ∷ []) here refl refl refl refl refl (spaces_step state s number n here can room)
line_gives state s number (Aligns n) here can room =
    left_marked (Aligns n) state s number 0x4E (records.Align n ∷ []) here refl refl refl refl refl (align_step state s number n here can.0 can.1 can.2 room)
line_gives state s number (OrgIs n) here can room = left_marked (OrgIs n) state s number 0x4E (records.Org n ∷ []) here refl refl refl refl refl (move_step state s number n here can room)
line_gives state s number (UsingIs name) here can room = left_marked (UsingIs name) state s number 0x4E (records.Using name ∷ []) here refl refl refl refl refl (using_step state s number name here can room)
line_gives state s number (StrongIs name) here can room = left_marked (StrongIs name) state s number 0x4E (records.Strong name ∷ []) here refl refl refl refl refl (asks_step state s number name here can room)
line_gives state s number (Labels false name) here can room =
    left_local state s number name here can.0
    (local_step state s number name here can.0 can.1 (subst (λ (l : List Record). place_after 0 (s.body ++ l) ≤ greatest_length s.class) (sym (same_local name (cells_of s) can.0)) room))
line_gives state s number (Labels true name) here can room =
    left_grown (Labels true name) state s number name None (records.Label true name 0 0x4E 0 ∷ []) [] here can.0 refl refl refl refl refl (global_step state s number name here can.0 can.1 room)
line_gives state s number (Equates false name n) here can room =
    left_grown (Equates false name n) state s number name (Some n) [] (records_said state.widths (Equates false name n)) here can.0.0 refl refl refl refl refl
    (equ_step state s number name n here can.0.0 can.0.1 can.1 room)
line_gives state s number (Equates true name n) here can room =
    left_grown (Equates true name n) state s number name (Some n) [] (records_said state.widths (Equates true name n)) here can.0.0 refl refl refl refl refl
    (gequ_step state s number name n here can.0.0 can.0.1 can.1 room)
line_gives state s number (Instructs m way operand) here can room = line_instruction state s number m way operand here can room
line_gives state s number (Bytes []) here can room = absurd can.0
line_gives state s number (Bytes (byte ∷ bytes)) here can room =
    left_marked (Bytes (byte ∷ bytes)) state s number 0x4E (records.Const (byte ∷ bytes) ∷ []) here refl refl refl refl refl (bytes_step state s number byte bytes here can.1 can.2 room)
line_gives state s number (WeakIs name) here can room =
    left_marked (WeakIs name) state s number 0x4E (records_said state.widths (WeakIs name)) here refl refl refl refl refl (weakly_step state s number name here can room)
line_gives state s number (FormulaIs count tree) here can room =
    left_marked (FormulaIs count tree) state s number 0x4E (records_said state.widths (FormulaIs count tree)) here refl refl refl refl refl
    (sums_step state s number count tree here can.0 can.1 can.2 can.3 can.4 room)
line_gives state s number EndIs here can room = absurd can
