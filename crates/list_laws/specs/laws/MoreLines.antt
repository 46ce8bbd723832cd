-- The law on one line, for labels, USING, widths, KIND, ALIGN and ORG, the first line and the last.
use Rattle.std.proofs.Common.{◌≡◌, ℕ, ◌-◌, ◌^◌, ◌<◌, ◌≤◌, Bool, true, false, eqb, ltb, List, [], ◌∷◌, ◌++◌, length, Option, Some, None, Ok, refl, sym, ap, subst, ◌∙◌, arith}
use Rattle.std.specs.Prelude.{replicate, codes, is_some}
use Rattle.std.specs.List.{AllByRecursion, list_all}
use Rattle.std.specs.Int.{is_power_of_two}
use Rattle.std.specs.Option.{option_map}
use Rattle.std.proofs.lemmas.Bool.{lt-leb, le-ltb, le-leb, lt-ltb, eqb-true}
use Rattle.omf_format.specs.Expression as expression
use Rattle.omf_format.specs.Expression.{Tree, Leaf}
use Rattle.omf_format.specs.Header.{alignment_of, form_of, is_listed}
use Rattle.omf_format.specs.Record.{Record, End, Label, Using, Align, Org}
use Rattle.orca_meaning.specs.Characters.{is_name, is_name_start, is_name_byte, folded}
use Rattle.orca_meaning.specs.Operation as operations
use Rattle.orca_meaning.specs.Line.{Line, line_of}
use Rattle.asm_meaning.specs.declared.directives.Class.TheVariants.{PrivateCode, PrivateData, Code, Data}
use Rattle.asm_meaning.specs.declared.directives.Directive.TheVariants as directives
use Rattle.asm_meaning.specs.declared.directives.Switch.{Switch}
use Rattle.asm_meaning.specs.declared.directives.Switch.TheVariants.{LongA, LongI, Msb}
use Rattle.asm_meaning.specs.declared.directives.Operation.{Operation}
use Rattle.asm_meaning.specs.declared.directives.Operation.TheVariants.{Direct}
use Rattle.asm_meaning.specs.Answer.{Answer}
use Rattle.asm_meaning.specs.Operations as asm_operations
use Rattle.asm_meaning.specs.Constant as constant
use Rattle.asm_meaning.specs.Constant.{Constants, Known, amount}
use Rattle.asm_meaning.specs.Formulas as formulas
use Rattle.asm_meaning.specs.declared.directives.Class.{Class}
use Rattle.omf_base.specs.Digits.{hexadecimal}
use Rattle.asm_meaning.specs.Operations.{operation_of}
use Rattle.asm_meaning.specs.Pieces as pieces
use Rattle.asm_meaning.specs.State.{State, StartedSegment, cells_of, greatest_length, with_local_record, with_records, in_segment, within_length, with_switch_set, state_after_end, state_after_start}
use Rattle.asm_meaning.specs.laws.Steps.{is_too_long, equating_global, IsPlaced, is_alignment}
use Rattle.asm_meaning.specs.Statement.{following_here, with_equate, equating, constants_of, IsStep, IsDone, is_misplaced, begins_segment, label_of, is_taken, load_name_of, switch_of, distance_in, IsMove, state_after_align, state_after_org, with_kind, listed_kind, alignment_in}
use Rattle.list_laws.specs.laws.LineText.{IsLabelFront, HasNoBlank}
use Rattle.list_meaning.specs.Listed.{statement_text}
use Rattle.list_laws.specs.laws.FormulaLaw.{IsPlainName}
use Rattle.list_laws.specs.laws.HeldLaw.{name_ink}
use Rattle.list_laws.specs.laws.LineLaw.{step_of, inside, number_ink, number_formula, number_there}
use Rattle.list_meaning.specs.Listed.{number_text}
use Rattle.list_meaning.specs.Listed.{StartIs, Equates, Labels, UsingIs, SwitchIs, KindIs, Aligns, OrgIs, EndIs, NextAlignIs, NextOrg, said_text}
use Rattle.list_meaning.specs.laws.Steps.{on_text}

-- ---- names

all_bytes : (name : List ℕ) → AllByRecursion (λ b. is_name_byte b ≡ true) name → list_all is_name_byte name ≡ true
all_bytes [] are = refl
all_bytes (byte ∷ name) are = rw (are.0, all_bytes name are.1) refl

name_is : (name : List ℕ) → IsPlainName name → is_name name ≡ true
unfolding is_name
name_is [] is = absurd is
name_is (byte ∷ name) is = rw (is.0, all_bytes name is.1) refl

folded_is : (name : List ℕ) → IsPlainName name → folded name ≡ name
folded_is [] is = refl
folded_is (byte ∷ name) is = is.2

not_start : (byte k : ℕ) → is_name_start byte ≡ true → is_name_start k ≡ false → eqb byte k ≡ false
not_start byte k is none = by (eqb byte k) refl
  where
    by : (b : Bool) → eqb byte k ≡ b → eqb byte k ≡ false
    by true e = let clash : true ≡ false = sym is ∙ ap is_name_start (eqb-true byte k e) ∙ none in absurd cc
    by false e = e

pub front_is : (name : List ℕ) → IsPlainName name → IsLabelFront name
front_is [] is = absurd is
front_is (byte ∷ name) is = (not_start byte 0x2A is.0 refl, not_start byte 0x3B is.0 refl, not_start byte 0x21 is.0 refl, not_start byte 0x2E is.0 refl, name_ink (byte ∷ name) is)

-- a label that no other statement of the segment has
label_is : (state : State) (s : StartedSegment) (op : Operation) (name : List ℕ) → state.segment ≡ Some s → IsPlainName name → is_some (s.names name) ≡ false → label_of state op name ≡ Ok name
label_is state s op [] here is free = absurd is
label_is state s op (byte ∷ name) here is free =
    let taken : is_taken state state.segment op (folded (byte ∷ name)) ≡ false = ap (λ (o : Option StartedSegment). is_taken state o op (folded (byte ∷ name))) here ∙ ap (λ (n : List ℕ). is_some (s.names n)) (folded_is (byte ∷ name) is) ∙ free in
    rw (name_is (byte ∷ name) is, taken) (ap (λ (n : List ℕ). ok n) (folded_is (byte ∷ name) is))
  where
    ok : List ℕ → Answer (List ℕ)
    ok n = Ok n

-- ---- a state that is left

inside_to : (state next : State) (s : StartedSegment) (line : Line) (op : Operation) (label text : List ℕ) → state.segment ≡ Some s → begins_segment op ≡ false
    → IsDone state line op (label_of state op label) text (Ok next) → within_length next ≡ Ok next → IsPlaced state line op label text (is_misplaced state.segment op label text) (Ok next)
inside_to state next s line op label text here begins done fits =
    subst (λ (o : Option StartedSegment). IsPlaced state line op label text (is_misplaced o op label text) (Ok next)) (sym here)
    (subst (λ (b : Bool). IsPlaced state line op label text b (Ok next)) (sym begins) (Ok next, done, sym fits))

-- ---- labels

pub local_step : (state : State) (s : StartedSegment) (number : ℕ) (name : List ℕ) → state.segment ≡ Some s → IsPlainName name → is_some (s.names name) ≡ false → cells_of (with_local_record name 0x4E [] s) ≤ greatest_length s.class
    → IsStep state (line_of 0 number (said_text (Labels false name))) (Ok (in_segment (with_local_record name 0x4E []) state))
unfolding said_text IsDone operation_of operations.operation_use operations.mnemonic_of operations.value_of_spelling operations.mnemonics operations.without_operand asm_operations.directives asm_operations.ignored_directives
local_step state s number name here is free room =
    step_of state number name (codes "ANOP") [] (Direct directives.Nothing) (Ok (in_segment (with_local_record name 0x4E []) state)) (front_is name is) (refl, (refl, (refl, (refl, tt)))) tt refl refl
    (inside state s (line_of 0 number (statement_text name (codes "ANOP") [])) (Direct directives.Nothing) name [] (with_local_record name 0x4E []) here refl
    (rw (label_is state s (Direct directives.Nothing) name here is free) refl) room)

pub global_step : (state : State) (s : StartedSegment) (number : ℕ) (name : List ℕ) → state.segment ≡ Some s → IsPlainName name → is_some (s.names name) ≡ false
    → cells_of (with_records name None (Label true name 0 0x4E 0 ∷ []) [] s) ≤ greatest_length s.class
    → IsStep state (line_of 0 number (said_text (Labels true name))) (Ok (in_segment (with_records name None (Label true name 0 0x4E 0 ∷ []) []) state))
unfolding said_text IsDone operation_of operations.operation_use operations.mnemonic_of operations.value_of_spelling operations.mnemonics operations.without_operand asm_operations.directives asm_operations.ignored_directives
global_step state s number name here is free room =
    step_of state number name (codes "ENTRY") [] (Direct directives.Entry) (Ok (in_segment (with_records name None (Label true name 0 0x4E 0 ∷ []) []) state)) (front_is name is) (refl, (refl, (refl, (refl, (refl, tt))))) tt refl refl
    (inside state s (line_of 0 number (statement_text name (codes "ENTRY") [])) (Direct directives.Entry) name [] (with_records name None (Label true name 0 0x4E 0 ∷ []) []) here refl
    (rw (label_is state s (Direct directives.Entry) name here is free) refl) room)

-- ---- USING

pub using_step : (state : State) (s : StartedSegment) (number : ℕ) (name : List ℕ) → state.segment ≡ Some s → IsPlainName name → cells_of (with_local_record [] 0x4E (Using name ∷ []) s) ≤ greatest_length s.class
    → IsStep state (line_of 0 number (said_text (UsingIs name))) (Ok (in_segment (with_local_record [] 0x4E (Using name ∷ [])) state))
unfolding said_text IsDone operation_of operations.operation_use operations.mnemonic_of operations.value_of_spelling operations.mnemonics operations.without_operand asm_operations.directives asm_operations.ignored_directives
using_step state s number name here is room =
    step_of state number [] (codes "USING") name (Direct directives.Using) (Ok (in_segment (with_local_record [] 0x4E (Using name ∷ [])) state)) tt (refl, (refl, (refl, (refl, (refl, tt))))) (name_ink name is) tt refl
    (inside state s (line_of 0 number (statement_text [] (codes "USING") name)) (Direct directives.Using) [] name (with_local_record [] 0x4E (Using name ∷ [])) here refl
    (rw (name_is name is, folded_is name is) refl) room)

-- ---- widths

switch_ink : (on : Bool) → HasNoBlank (on_text on)
switch_ink true = (refl, (refl, tt))
switch_ink false = (refl, (refl, (refl, tt)))

turned_fits : (switch : Switch) (on : Bool) (state : State) → is_too_long state.segment ≡ false → within_length (with_switch_set switch on state) ≡ Ok (with_switch_set switch on state)
turned_fits LongA on state fits = rw fits refl
turned_fits LongI on state fits = rw fits refl
turned_fits Msb on state fits = rw fits refl

-- the open segment stays as long as it is
unchanged_fits : (state : State) (s : StartedSegment) → state.segment ≡ Some s → cells_of (with_local_record [] 0x4E [] s) ≤ greatest_length s.class → is_too_long (in_segment (with_local_record [] 0x4E []) state).segment ≡ false
unchanged_fits state s here room = ap (λ (o : Option StartedSegment). is_too_long (option_map (with_local_record [] 0x4E []) o)) here ∙ le-ltb (greatest_length s.class) (cells_of (with_local_record [] 0x4E [] s)) room

switch_is : (on : Bool) → switch_of (on_text on) ≡ Ok on
switch_is true = refl
switch_is false = refl

turns_done : (state : State) (line : Line) (switch : Switch) (on : Bool) → IsDone state line (Direct (directives.Turn switch)) (label_of state (Direct (directives.Turn switch)) []) (on_text on) (Ok (with_switch_set switch on (in_segment (with_local_record [] 0x4E []) state)))
unfolding IsDone
turns_done state line switch on = rw (switch_is on) refl

pub turns_step : (state : State) (s : StartedSegment) (number : ℕ) (switch : Switch) (on : Bool) → state.segment ≡ Some s → cells_of (with_local_record [] 0x4E [] s) ≤ greatest_length s.class
    → IsStep state (line_of 0 number (said_text (SwitchIs switch on))) (Ok (with_switch_set switch on (in_segment (with_local_record [] 0x4E []) state)))
unfolding said_text IsDone operation_of operations.operation_use operations.mnemonic_of operations.value_of_spelling operations.mnemonics operations.without_operand asm_operations.directives asm_operations.ignored_directives
turns_step state s number LongA on here room =
    step_of state number [] (codes "LONGA") (on_text on) (Direct (directives.Turn LongA)) (Ok (with_switch_set LongA on (in_segment (with_local_record [] 0x4E []) state))) tt (refl, (refl, (refl, (refl, (refl, tt))))) (switch_ink on) tt refl
    (inside_to state (with_switch_set LongA on (in_segment (with_local_record [] 0x4E []) state)) s (line_of 0 number (statement_text [] (codes "LONGA") (on_text on))) (Direct (directives.Turn LongA)) [] (on_text on) here refl
    (turns_done state (line_of 0 number (statement_text [] (codes "LONGA") (on_text on))) LongA on) (turned_fits LongA on (in_segment (with_local_record [] 0x4E []) state) (unchanged_fits state s here room)))
turns_step state s number LongI on here room =
    step_of state number [] (codes "LONGI") (on_text on) (Direct (directives.Turn LongI)) (Ok (with_switch_set LongI on (in_segment (with_local_record [] 0x4E []) state))) tt (refl, (refl, (refl, (refl, (refl, tt))))) (switch_ink on) tt refl
    (inside_to state (with_switch_set LongI on (in_segment (with_local_record [] 0x4E []) state)) s (line_of 0 number (statement_text [] (codes "LONGI") (on_text on))) (Direct (directives.Turn LongI)) [] (on_text on) here refl
    (turns_done state (line_of 0 number (statement_text [] (codes "LONGI") (on_text on))) LongI on) (turned_fits LongI on (in_segment (with_local_record [] 0x4E []) state) (unchanged_fits state s here room)))
turns_step state s number Msb on here room =
    step_of state number [] (codes "MSB") (on_text on) (Direct (directives.Turn Msb)) (Ok (with_switch_set Msb on (in_segment (with_local_record [] 0x4E []) state))) tt (refl, (refl, (refl, tt))) (switch_ink on) tt refl
    (inside_to state (with_switch_set Msb on (in_segment (with_local_record [] 0x4E []) state)) s (line_of 0 number (statement_text [] (codes "MSB") (on_text on))) (Direct (directives.Turn Msb)) [] (on_text on) here refl
    (turns_done state (line_of 0 number (statement_text [] (codes "MSB") (on_text on))) Msb on) (turned_fits Msb on (in_segment (with_local_record [] 0x4E []) state) (unchanged_fits state s here room)))

-- ---- END

pub end_step : (state : State) (s : StartedSegment) (number : ℕ) → state.segment ≡ Some s
    → IsStep state (line_of 0 number (said_text EndIs)) (Ok (state_after_end (in_segment (with_local_record [] 0x4E (End ∷ [])) state)))
unfolding said_text IsDone operation_of operations.operation_use operations.mnemonic_of operations.value_of_spelling operations.mnemonics operations.without_operand asm_operations.directives asm_operations.ignored_directives
end_step state s number here =
    let next = state_after_end (in_segment (with_local_record [] 0x4E (End ∷ [])) state) in
    step_of state number [] (codes "END") [] (Direct directives.End) (Ok next) tt (refl, (refl, (refl, tt))) tt refl refl
    (inside_to state next s (line_of 0 number (statement_text [] (codes "END") [])) (Direct directives.End) [] [] here refl refl refl)

-- ---- ALIGN and ORG inside

pub align_step : (state : State) (s : StartedSegment) (number n : ℕ) → state.segment ≡ Some s → n < 2 ^ 32 → is_power_of_two n ≡ true → n ≤ alignment_of s.header.align
    → cells_of (with_local_record [] 0x4E (Align n ∷ []) s) ≤ greatest_length s.class → IsStep state (line_of 0 number (said_text (Aligns n))) (Ok (in_segment (with_local_record [] 0x4E (Align n ∷ [])) state))
unfolding said_text IsDone operation_of operations.operation_use operations.mnemonic_of operations.value_of_spelling operations.mnemonics operations.without_operand asm_operations.directives asm_operations.ignored_directives
align_step state s number n here fits power low room =
    let inside_alignment : is_alignment state.segment n ≡ true = ap (λ (o : Option StartedSegment). is_alignment o n) here ∙ rw (power, le-leb n (alignment_of s.header.align) low) refl in
    let allowed : alignment_in state n ≡ Ok n = rw inside_alignment refl in
    let same : state_after_align state state.segment [] n ≡ in_segment (with_local_record [] 0x4E (Align n ∷ [])) state = ap (λ (o : Option StartedSegment). state_after_align state o [] n) here in
    step_of state number [] (codes "ALIGN") (number_text 8 n) (Direct directives.Align) (Ok (in_segment (with_local_record [] 0x4E (Align n ∷ [])) state)) tt (refl, (refl, (refl, (refl, (refl, tt))))) (number_ink 8 n fits) tt refl
    (inside state s (line_of 0 number (statement_text [] (codes "ALIGN") (number_text 8 n))) (Direct directives.Align) [] (number_text 8 n) (with_local_record [] 0x4E (Align n ∷ [])) here refl
    (Some (Leaf (expression.Constant n)), number_formula 8 n fits, rw (number_there state n fits, allowed, same) refl) room)

-- `*+` and a number
pub move_step : (state : State) (s : StartedSegment) (number n : ℕ) → state.segment ≡ Some s → n < 2 ^ 31 → cells_of (with_local_record [] 0x4E (Org n ∷ []) s) ≤ greatest_length s.class
    → IsStep state (line_of 0 number (said_text (OrgIs n))) (Ok (in_segment (with_local_record [] 0x4E (Org n ∷ [])) state))
unfolding said_text IsDone operation_of operations.operation_use operations.mnemonic_of operations.value_of_spelling operations.mnemonics operations.without_operand asm_operations.directives asm_operations.ignored_directives
move_step state s number n here low room =
    let fits : n < 2 ^ 32 = omega (arith, low) in
    let text = codes "*+" ++ number_text 8 n in
    let allowed : distance_in state.segment n ≡ Ok n = ap (λ (o : Option StartedSegment). distance_in o n) here ∙ rw (lt-ltb n (2 ^ 31) low) refl in
    let same : state_after_org state state.segment [] n ≡ in_segment (with_local_record [] 0x4E (Org n ∷ [])) state = ap (λ (o : Option StartedSegment). state_after_org state o [] n) here in
    let there : IsMove state.segment text (Some (Leaf (expression.Constant n))) = subst (λ (o : Option StartedSegment). IsMove o text (Some (Leaf (expression.Constant n)))) (sym here) (number_formula 8 n fits) in
    step_of state number [] (codes "ORG") text (Direct directives.Org) (Ok (in_segment (with_local_record [] 0x4E (Org n ∷ [])) state)) tt (refl, (refl, (refl, tt))) (refl, (refl, number_ink 8 n fits)) tt refl
    (inside state s (line_of 0 number (statement_text [] (codes "ORG") text)) (Direct directives.Org) [] text (with_local_record [] 0x4E (Org n ∷ [])) here refl
    (Some (Leaf (expression.Constant n)), there, rw (number_there state n fits, allowed, same) refl) room)

-- ---- KIND

pub kind_step : (state : State) (s : StartedSegment) (number n : ℕ) → state.segment ≡ Some s → n ≤ 0xFFFF → is_listed (form_of n) ≡ true → cells_of (with_local_record [] 0x4E [] s) ≤ greatest_length s.class
    → IsStep state (line_of 0 number (said_text (KindIs n))) (Ok (in_segment (λ s. with_kind n (with_local_record [] 0x4E [] s)) state))
unfolding said_text IsDone operation_of operations.operation_use operations.mnemonic_of operations.value_of_spelling operations.mnemonics operations.without_operand asm_operations.directives asm_operations.ignored_directives
kind_step state s number n here low listed_form room =
    let fits : n < 2 ^ 32 = omega (arith, low) in
    let allowed : listed_kind n ≡ Ok n = rw (listed_form, le-ltb 0xFFFF n low) refl in
    step_of state number [] (codes "KIND") (number_text 4 n) (Direct directives.Kind) (Ok (in_segment (λ s. with_kind n (with_local_record [] 0x4E [] s)) state)) tt (refl, (refl, (refl, (refl, tt)))) (number_ink 4 n fits) tt refl
    (inside state s (line_of 0 number (statement_text [] (codes "KIND") (number_text 4 n))) (Direct directives.Kind) [] (number_text 4 n) (λ s. with_kind n (with_local_record [] 0x4E [] s)) here refl
    (Some (Leaf (expression.Constant n)), number_formula 4 n fits, rw (number_there state n fits, allowed) refl) room)

-- ---- ALIGN and ORG before START

outside_to : (state next : State) (line : Line) (op : Operation) (label text : List ℕ) → state.segment ≡ None → is_misplaced None op label text ≡ false
    → IsDone state line op (label_of state op label) text (Ok next) → within_length next ≡ Ok next → IsPlaced state line op label text (is_misplaced state.segment op label text) (Ok next)
outside_to state next line op label text here may done fits =
    subst (λ (o : Option StartedSegment). IsPlaced state line op label text (is_misplaced o op label text) (Ok next)) (sym here)
    (subst (λ (b : Bool). IsPlaced state line op label text b (Ok next)) (sym may) (Ok next, done, sym fits))

pub next_align_step : (state : State) (number n : ℕ) → state.segment ≡ None → n ≤ 0x10000 → is_power_of_two n ≡ true → IsStep state (line_of 0 number (said_text (NextAlignIs n))) (Ok (record state { align = n }))
unfolding said_text IsDone operation_of operations.operation_use operations.mnemonic_of operations.value_of_spelling operations.mnemonics operations.without_operand asm_operations.directives asm_operations.ignored_directives
next_align_step state number n here low power =
    let fits : n < 2 ^ 32 = omega (arith, low) in
    let outside_alignment : is_alignment state.segment n ≡ true = ap (λ (o : Option StartedSegment). is_alignment o n) here ∙ rw (power, le-leb n 0x10000 low) refl in
    let allowed : alignment_in state n ≡ Ok n = rw outside_alignment refl in
    let same : state_after_align state state.segment [] n ≡ record state { align = n } = ap (λ (o : Option StartedSegment). state_after_align state o [] n) here in
    let short : within_length (record state { align = n }) ≡ Ok (record state { align = n }) = rw here refl in
    step_of state number [] (codes "ALIGN") (number_text 8 n) (Direct directives.Align) (Ok (record state { align = n })) tt (refl, (refl, (refl, (refl, (refl, tt))))) (number_ink 8 n fits) tt refl
    (outside_to state (record state { align = n }) (line_of 0 number (statement_text [] (codes "ALIGN") (number_text 8 n))) (Direct directives.Align) [] (number_text 8 n) here refl
    (Some (Leaf (expression.Constant n)), number_formula 8 n fits, rw (number_there state n fits, allowed, same) refl) short)

no_here : (text : List ℕ) → is_some (following_here (0x24 ∷ text)) ≡ false
no_here [] = refl
no_here (byte ∷ text) = refl

pub next_org_step : (state : State) (number n : ℕ) → state.segment ≡ None → n < 2 ^ 32 → IsStep state (line_of 0 number (said_text (NextOrg n))) (Ok (record state { org = n }))
unfolding said_text IsDone operation_of operations.operation_use operations.mnemonic_of operations.value_of_spelling operations.mnemonics operations.without_operand asm_operations.directives asm_operations.ignored_directives
next_org_step state number n here fits =
    let text = number_text 8 n in
    let allowed : distance_in state.segment n ≡ Ok n = ap (λ (o : Option StartedSegment). distance_in o n) here in
    let same : state_after_org state state.segment [] n ≡ record state { org = n } = ap (λ (o : Option StartedSegment). state_after_org state o [] n) here in
    let there : IsMove state.segment text (Some (Leaf (expression.Constant n))) = subst (λ (o : Option StartedSegment). IsMove o text (Some (Leaf (expression.Constant n)))) (sym here) (number_formula 8 n fits) in
    let short : within_length (record state { org = n }) ≡ Ok (record state { org = n }) = rw here refl in
    step_of state number [] (codes "ORG") text (Direct directives.Org) (Ok (record state { org = n })) tt (refl, (refl, (refl, tt))) (number_ink 8 n fits) tt refl
    (outside_to state (record state { org = n }) (line_of 0 number (statement_text [] (codes "ORG") text)) (Direct directives.Org) [] text here (no_here (hexadecimal 8 n))
    (Some (Leaf (expression.Constant n)), there, rw (number_there state n fits, allowed, same) refl) short)

-- ---- EQU and GEQU

known : (constants : Constants) (n : ℕ) → amount constants (Leaf (expression.Constant n)) ≡ Ok (Known n)
unfolding amount constant.known_value
known constants n = refl

judged_number : (n : ℕ) → n < 2 ^ 32 → formulas.formula_of (Some (Leaf (expression.Constant n))) ≡ Ok (Leaf (expression.Constant n))
unfolding formulas.checked_formula
judged_number n fits = rw (lt-leb (2 ^ 32) n fits) refl

pub equ_step : (state : State) (s : StartedSegment) (number : ℕ) (name : List ℕ) (n : ℕ) → state.segment ≡ Some s → IsPlainName name → is_some (s.names name) ≡ false → n < 2 ^ 32
    → cells_of (with_equate false name (Known n) s) ≤ greatest_length s.class → IsStep state (line_of 0 number (said_text (Equates false name n))) (Ok (in_segment (with_equate false name (Known n)) state))
unfolding said_text IsDone operation_of operations.operation_use operations.mnemonic_of operations.value_of_spelling operations.mnemonics operations.without_operand asm_operations.directives asm_operations.ignored_directives
equ_step state s number name n here is free fits room =
    step_of state number name (codes "EQU") (number_text 8 n) (Direct directives.Equ) (Ok (in_segment (with_equate false name (Known n)) state)) (front_is name is) (refl, (refl, (refl, tt))) (number_ink 8 n fits) tt refl
    (inside state s (line_of 0 number (statement_text name (codes "EQU") (number_text 8 n))) (Direct directives.Equ) name (number_text 8 n) (with_equate false name (Known n)) here refl
    (Some (Leaf (expression.Constant n)), number_formula 8 n fits, rw (label_is state s (Direct directives.Equ) name here is free, judged_number n fits, known (constants_of state) n) refl) room)

pub gequ_step : (state : State) (s : StartedSegment) (number : ℕ) (name : List ℕ) (n : ℕ) → state.segment ≡ Some s → IsPlainName name → is_some (s.names name) ≡ false → n < 2 ^ 32
    → cells_of (with_equate true name (Known n) s) ≤ greatest_length s.class → IsStep state (line_of 0 number (said_text (Equates true name n))) (Ok (in_segment (with_equate true name (Known n)) state))
unfolding said_text IsDone operation_of operations.operation_use operations.mnemonic_of operations.value_of_spelling operations.mnemonics operations.without_operand asm_operations.directives asm_operations.ignored_directives
gequ_step state s number name n here is free fits room =
    let same : (label : Answer (List ℕ)) (found : Option Tree) → equating_global state state.segment label found ≡ equating state true label found = λ label found. ap (λ (o : Option StartedSegment). equating_global state o label found) here in
    step_of state number name (codes "GEQU") (number_text 8 n) (Direct directives.Gequ) (Ok (in_segment (with_equate true name (Known n)) state)) (front_is name is) (refl, (refl, (refl, (refl, tt)))) (number_ink 8 n fits) tt refl
    (inside state s (line_of 0 number (statement_text name (codes "GEQU") (number_text 8 n))) (Direct directives.Gequ) name (number_text 8 n) (with_equate true name (Known n)) here refl (
      Some (Leaf (expression.Constant n)),
      number_formula 8 n fits,
      sym (same (label_of state (Direct directives.Gequ) name) (Some (Leaf (expression.Constant n))) ∙ rw (label_is state s (Direct directives.Gequ) name here is free, judged_number n fits, known (constants_of state) n) refl),
    ) room)

-- ---- START and DATA

outside_label : (state : State) (class : Class) (name : List ℕ) → state.segment ≡ None → IsPlainName name → label_of state (Direct (directives.Begin class)) name ≡ Ok name
outside_label state class [] here is = absurd is
outside_label state class (byte ∷ name) here is =
    let taken : is_taken state state.segment (Direct (directives.Begin class)) (folded (byte ∷ name)) ≡ false = ap (λ (o : Option StartedSegment). is_taken state o (Direct (directives.Begin class)) (folded (byte ∷ name))) here in
    rw (name_is (byte ∷ name) is, taken) (ap (λ (n : List ℕ). ok n) (folded_is (byte ∷ name) is))
  where
    ok : List ℕ → Answer (List ℕ)
    ok n = Ok n

-- LOADNAME or none
abbrev pub IsLoadName : List ℕ → Type 0
IsLoadName [] = Unit {0}
IsLoadName (byte ∷ text) = IsPlainName (byte ∷ text) × (length (byte ∷ text) ≤ 10)

abbrev pub padded : List ℕ → List ℕ
padded text = text ++ replicate (10 - length text) 0x20

load_is : (text : List ℕ) → IsLoadName text → load_name_of text ≡ Ok (padded text)
unfolding load_name_of
load_is [] is = refl
load_is (byte ∷ text) is = rw (name_is (byte ∷ text) is.0, le-leb (length (byte ∷ text)) 10 is.1) (ap (λ (l : List ℕ). ok (l ++ replicate (10 - length (byte ∷ text)) 0x20)) (folded_is (byte ∷ text) is.0))
  where
    ok : List ℕ → Answer (List ℕ)
    ok n = Ok n

load_ink : (text : List ℕ) → IsLoadName text → HasNoBlank text
load_ink [] is = tt
load_ink (byte ∷ text) is = name_ink (byte ∷ text) is.0

begun_fits : (state : State) (line : Line) (class : Class) (name load_name : List ℕ) → state.front ≡ [] → within_length (state_after_start state line class name load_name) ≡ Ok (state_after_start state line class name load_name)
unfolding pieces.place_after
begun_fits state line class name load_name none =
    let empty : is_too_long (state_after_start state line class name load_name).segment ≡ false = ap (λ (l : List Record). ltb (greatest_length class) (pieces.place_after 0 l)) none ∙ by class in rw empty refl
  where
    by : (class : Class) → ltb (greatest_length class) 0 ≡ false
    by Code = refl
    by PrivateCode = refl
    by Data = refl
    by PrivateData = refl

pub start_step : (state : State) (number : ℕ) (name load_name : List ℕ) → state.segment ≡ None → state.front ≡ [] → IsPlainName name → IsLoadName load_name
    → IsStep state (line_of 0 number (said_text (StartIs false name load_name))) (Ok (state_after_start state (line_of 0 number (said_text (StartIs false name load_name))) Code name (padded load_name)))
unfolding said_text IsDone operation_of operations.operation_use operations.mnemonic_of operations.value_of_spelling operations.mnemonics operations.without_operand asm_operations.directives asm_operations.ignored_directives
start_step state number name load_name here none is load =
    let line = line_of 0 number (statement_text name (codes "START") load_name) in
    step_of state number name (codes "START") load_name (Direct (directives.Begin Code)) (Ok (state_after_start state line Code name (padded load_name))) (front_is name is) (refl, (refl, (refl, (refl, (refl, tt))))) (load_ink load_name load) tt refl
    (outside_to state (state_after_start state line Code name (padded load_name)) line (Direct (directives.Begin Code)) name load_name here refl
    (rw (outside_label state Code name here is, load_is load_name load) refl) (begun_fits state line Code name (padded load_name) none))

pub data_step : (state : State) (number : ℕ) (name load_name : List ℕ) → state.segment ≡ None → state.front ≡ [] → IsPlainName name → IsLoadName load_name
    → IsStep state (line_of 0 number (said_text (StartIs true name load_name))) (Ok (state_after_start state (line_of 0 number (said_text (StartIs true name load_name))) Data name (padded load_name)))
unfolding said_text IsDone operation_of operations.operation_use operations.mnemonic_of operations.value_of_spelling operations.mnemonics operations.without_operand asm_operations.directives asm_operations.ignored_directives
data_step state number name load_name here none is load =
    let line = line_of 0 number (statement_text name (codes "DATA") load_name) in
    step_of state number name (codes "DATA") load_name (Direct (directives.Begin Data)) (Ok (state_after_start state line Data name (padded load_name))) (front_is name is) (refl, (refl, (refl, (refl, tt)))) (load_ink load_name load) tt refl
    (outside_to state (state_after_start state line Data name (padded load_name)) line (Direct (directives.Begin Data)) name load_name here refl
    (rw (outside_label state Data name here is, load_is load_name load) refl) (begun_fits state line Data name (padded load_name) none))
