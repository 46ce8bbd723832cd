-- Each line keeps what is left sound.
use Rattle.std.proofs.Common.{◌≡◌, ℕ, ◌-◌, ◌^◌, ◌<◌, ◌≤◌, Bool, true, false, cond, eqb, ltb, leb, not, List, [], ◌∷◌, ◌++◌, length, drop, Option, Some, None, Ok, Err, refl, sym, ap, subst, ◌∙◌, arith}
use Rattle.std.specs.Prelude.{replicate, bytes_eq, ◌&&◌}
use Rattle.std.specs.Char.{to_ascii_uppercase}
use Rattle.std.specs.Option.{option_or}
use Rattle.std.proofs.lemmas.Bool.{ltb-false, ltb-true, leb-true, and_parts}
use Rattle.std.proofs.lemmas.List.{length-append, length-map, length-drop, length-take, length-replicate}
use Rattle.omf_format.specs.Field.{◌>>=◌}
use Rattle.omf_format.specs.laws.FieldLaws.{bind_ok}
use Rattle.omf_format.specs.Expression.{Tree, Leaf, Constant, IsTree}
use Rattle.omf_format.specs.Header.{is_listed, form_of}
use Rattle.omf_format.specs.Record.{Record, End, Align, Org, Space, Using, Label}
use Rattle.orca_meaning.specs.declared.mnemonics.Mnemonic.{Mnemonic}
use Rattle.orca_meaning.specs.declared.operators.Operands.TheVariants.{Labels}
use Rattle.orca_meaning.specs.Characters.{is_name, folded}
use Rattle.orca_meaning.specs.Formula.{pending}
use Rattle.orca_meaning.specs.laws.FormulaLaws.{pending-one}
use Rattle.orca_meaning.specs.declared.lines.Span.{Span}
use Rattle.orca_meaning.specs.Line.{Line, part}
use Rattle.orca_meaning.specs.Operand.{Meaning}
use Rattle.asm_meaning.specs.declared.directives.Class.{Class}
use Rattle.asm_meaning.specs.declared.directives.Class.TheVariants.{Code, PrivateCode, Data, PrivateData}
use Rattle.asm_meaning.specs.declared.directives.Directive.TheVariants as directives
use Rattle.asm_meaning.specs.declared.directives.Operation.{Operation}
use Rattle.asm_meaning.specs.declared.directives.Operation.TheVariants.{Instruct, Direct}
use Rattle.asm_meaning.specs.declared.faults.AsmCause.TheVariants.{BadLabel, BadOperand, BadNumber, DoesNotFit, SegmentTooLong}
use Rattle.asm_meaning.specs.Answer.{Answer, pair_or_earlier_fault}
use Rattle.asm_meaning.specs.Constant.{KnownValue, Number, Open, Divided, known_value, required_number, Amount, Known, Written, amount, tree_of_amount, AreSmall}
use Rattle.asm_meaning.specs.Elements.{list_pieces}
use Rattle.asm_meaning.specs.Formulas.{IsFormula, formula_of}
use Rattle.asm_meaning.specs.Instruction.{instruction}
use Rattle.asm_meaning.specs.Operations.{operation_of}
use Rattle.asm_meaning.specs.Pieces.{Piece, records_of, IsPlain, ArePlainPieces}
use Rattle.asm_meaning.specs.State.{StartedSegment, State, cells_of, greatest_length, state_after_start, state_after_end, with_records, with_local_record, in_segment, within_length}
use Rattle.asm_meaning.specs.laws.Steps.{is_too_long, free_label, constants_in, value_of, equating_global, spacing, align_state, moving, kinding, IsMoveText, IsPlaced, IsKnown}
use Rattle.asm_meaning.specs.Statement.{needs_label, is_taken, label_of, IsOperandOf, Good, Bad, Large, load_name_of, name_of, switch_of, value_in, constants_of, number_in, alignment_in, distance_in, listed_kind, state_after_align, state_after_org, with_kind, equate, with_equate, equating, equating_outside, IsMove, marking, IsDone, IsStep, is_misplaced}
use Rattle.asm_meaning.specs.laws.AmountLaws.{IsFineAmount, fine_amount, small_worth, is_written}
use Rattle.asm_meaning.specs.laws.InstructionLaws.{both_ok}
use Rattle.asm_meaning.specs.laws.PieceLaws.{ArePlain, all-append, records_plain}
use Rattle.asm_meaning.specs.laws.GivenLaws.{IsNameLength, instruction_plain, judged_fine, list_plain}
use Rattle.asm_meaning.specs.laws.Sound.{IsSoundSegment, IsSound, IsShort, InSegment, IsLabelText, change_sound, grown_sound, marked_sound, mark_sound, turned_sound, begun_sound, ends_sound}

abbrev okay : {A : Type 0} → A → Answer A
okay a = Ok a

abbrev no_label : Answer (List ℕ)
no_label = Err BadLabel

abbrev bad_text : Answer (List ℕ)
bad_text = Err BadOperand

abbrev bad_number' : Answer ℕ
bad_number' = Err BadOperand

abbrev no_fit : Answer ℕ
no_fit = Err DoesNotFit

abbrev too_long : Answer State
too_long = Err SegmentTooLong

abbrev bad_meaning : Answer Meaning
bad_meaning = Err BadOperand

abbrev large_meaning : Answer Meaning
large_meaning = Err BadNumber

abbrev no_number : Option ℕ
no_number = None

none_some : (n : ℕ) → no_number ≡ Some n → ⊥
none_some n e = absurd cc

same_okay : {A : Type 0} (x y : A) → okay x ≡ okay y → x ≡ y
same_okay x y e = cc

pub part-le : (text : List ℕ) (s : Span) → length (part text s) ≤ length text
part-le text s = omega (arith, length-take (s.to - s.from) (drop s.from text), length-drop s.from text)

-- ---- names

folded_length : (text : List ℕ) → length (folded text) ≡ length text
folded_length text = length-map text to_ascii_uppercase

named : (byte : ℕ) (text : List ℕ) → length (byte ∷ text) ≤ 255 → IsNameLength (folded (byte ∷ text))
named byte text short = let size = folded_length (byte ∷ text) in (omega (arith, size), omega (arith, size, short))

-- what a label is
record IsLabelOf (operation : Operation) (name : List ℕ) : Type 0 where
  fine : IsLabelText name
  needed' : needs_label operation ≡ true → IsNameLength name

label_is : (state : State) (operation : Operation) (text name : List ℕ) → length text ≤ 255 → label_of state operation text ≡ Ok name → IsLabelOf operation name
label_is state operation [] name short e = by_need (needs_label operation) refl e
  where
    by_need : (b : Bool) → needs_label operation ≡ b → cond b no_label (okay []) ≡ Ok name → IsLabelOf operation name
    by_need true is e = absurd cc
    by_need false is e = subst (IsLabelOf operation) (same_okay [] name e) (record { fine = tt; needed' = λ yes. let clash : false ≡ true = sym is ∙ yes in absurd cc })
label_is state operation (byte ∷ text) name short e = by_name (is_name (byte ∷ text)) e
  where
    fine : IsLabelOf operation (folded (byte ∷ text))
    fine = record { fine = named byte text short; needed' = λ yes. named byte text short }

    by_taken : (b : Bool) → free_label b (folded (byte ∷ text)) ≡ Ok name → IsLabelOf operation name
    by_taken true e = absurd cc
    by_taken false e = subst (IsLabelOf operation) (same_okay (folded (byte ∷ text)) name e) fine

    by_name : (b : Bool) → cond b (free_label (is_taken state state.segment operation (folded (byte ∷ text))) (folded (byte ∷ text))) no_label ≡ Ok name → IsLabelOf operation name
    by_name true e = by_taken (is_taken state state.segment operation (folded (byte ∷ text))) e
    by_name false e = absurd cc

load_name_ten : (text name : List ℕ) → load_name_of text ≡ Ok name → length name ≡ 10
unfolding load_name_of
load_name_ten [] name e = subst (λ (n : List ℕ). length n ≡ 10) (same_okay (replicate 10 0x20) name e) (length-replicate {A = ℕ} 10 0x20)
load_name_ten (byte ∷ text) name e = by_name (is_name (byte ∷ text) && leb (length (byte ∷ text)) 10) refl e
  where
    whole : List ℕ
    whole = folded (byte ∷ text) ++ replicate (10 - length (byte ∷ text)) 0x20

    by_name : (b : Bool) → (is_name (byte ∷ text) && leb (length (byte ∷ text)) 10) ≡ b → cond b (okay whole) bad_text ≡ Ok name → length name ≡ 10
    by_name true is e =
        let few = leb-true (length (byte ∷ text)) 10 (and_parts (is_name (byte ∷ text)) (leb (length (byte ∷ text)) 10) is).1 in
        let size : length whole ≡ 10 = omega (arith, length-append (folded (byte ∷ text)) (replicate (10 - length (byte ∷ text)) 0x20), length-replicate {A = ℕ} (10 - length (byte ∷ text)) 0x20, folded_length (byte ∷ text), few) in
        subst (λ (n : List ℕ). length n ≡ 10) (same_okay whole name e) size
    by_name false is e = absurd cc

using_name : (text name : List ℕ) → length text ≤ 255 → name_of text ≡ Ok name → IsNameLength name
unfolding is_name
using_name [] name short e = absurd cc
using_name (byte ∷ text) name short e = by_name (is_name (byte ∷ text)) e
  where
    by_name : (b : Bool) → cond b (okay (folded (byte ∷ text))) bad_text ≡ Ok name → IsNameLength name
    by_name true e = subst IsNameLength (same_okay (folded (byte ∷ text)) name e) (named byte text short)
    by_name false e = absurd cc

-- ---- numbers

-- the constants that a state knows have 32 bits
known_small : (state : State) → IsSound state → AreSmall (constants_of state)
known_small state sound name n e = by_name (constants_in state.segment name) refl e
  where
    in_names : (o : Option (Option ℕ)) → ((m : ℕ) → o ≡ Some (Some m) → m < 2 ^ 32) → value_in o ≡ Some n → n < 2 ^ 32
    in_names None small e = absurd cc
    in_names (Some value) small e = small n (ap some_value e)
      where
        some_value : Option ℕ → Option (Option ℕ)
        some_value v = Some v

    by_segment : (o : Option StartedSegment) → InSegment IsSoundSegment o → constants_in o name ≡ Some n → n < 2 ^ 32
    by_segment None is e = absurd cc
    by_segment (Some s) is e = in_names (s.names name) (is.names name) e

    by_name : (o : Option ℕ) → constants_in state.segment name ≡ o → option_or o (state.outside name) ≡ Some n → n < 2 ^ 32
    by_name None is e = sound.outside name n e
    by_name (Some m) is e = by_segment state.segment sound.segment (is ∙ e)

fine_formula : (text : List ℕ) (found : Option Tree) (t : Tree) → length text ≤ 255 → IsFormula text found → formula_of found ≡ Ok t → IsTree 0 t × (pending 1 t ≤ 64)
fine_formula text None t short is e = absurd cc
fine_formula text (Some tree) t short is e = judged_fine text tree t [] short is e

needed_small : (w : KnownValue) (n : ℕ) → required_number w ≡ Ok n → w ≡ Number n
needed_small (Number m) n e = ap (λ (k : ℕ). Number k) (same_okay m n e)
needed_small Open n e = absurd cc
needed_small Divided n e = absurd cc

number_small : (state : State) (text : List ℕ) (found : Option Tree) (n : ℕ) → IsSound state → length text ≤ 255 → IsFormula text found → number_in state found ≡ Ok n → n < 2 ^ 32
number_small state text found n sound short is e =
    let t = bind_ok (formula_of found) (λ tree. required_number (known_value (constants_of state) tree)) n e in
    let fine = fine_formula text found t.0 short is t.1 in
    let small = small_worth (constants_of state) (known_small state sound) t.0 fine.0 in
    subst IsSmall (needed_small (known_value (constants_of state) t.0) n t.2) small
  where
    IsSmall : KnownValue → Type 0
    IsSmall w = Rattle.asm_meaning.specs.laws.AmountLaws.IsSmallWorth w

-- ---- operations

mark_keeps : (state next : State) (form : ℕ) (label : Answer (List ℕ)) (contents : Answer (List Record)) → IsSound state → ((name : List ℕ) → label ≡ Ok name → IsLabelText name) → form < 2 ^ 8
    → ((found : List Record) → contents ≡ Ok found → ArePlain found) → marking state form label contents ≡ Ok next → IsSound next
mark_keeps state next form label contents sound is fits plain e =
    let found = bind_ok (pair_or_earlier_fault label contents) _ next e in
    let parts = both_ok label contents found.0 found.1 in
    subst IsSound (same_okay (in_segment (with_local_record found.0.0 form found.0.1) state) next found.2) (mark_sound found.0.0 form found.0.1 state sound (is found.0.0 parts.0) fits (plain found.0.1 parts.1))

pieces_records : (r : Answer (List Piece)) (found : List Record) → ((pieces : List Piece) → r ≡ Ok pieces → ArePlainPieces pieces) → (r >>= λ pieces. okay (records_of pieces)) ≡ Ok found → ArePlain found
pieces_records r found plain e =
    let pieces = bind_ok r (λ pieces. okay (records_of pieces)) found e in
    subst ArePlain (same_okay (records_of pieces.0) found pieces.2) (records_plain [] pieces.0 (plain pieces.0 pieces.1))

instruction_records : (state : State) (m : Mnemonic) (text : List ℕ) (operand : Answer Meaning) (found : List Record) → IsSound state → length text ≤ 255 → IsOperandOf m text operand
    → (operand >>= instruction (constants_of state) state.widths m >>= λ pieces. Ok (records_of pieces)) ≡ Ok found → ArePlain found
instruction_records state m text operand found sound short is e =
    pieces_records (operand >>= instruction (constants_of state) state.widths m) found (λ pieces p. by_operand pieces is p) e
  where
    by_operand : (pieces : List Piece) → IsOperandOf m text operand → (operand >>= instruction (constants_of state) state.widths m) ≡ Ok pieces → ArePlainPieces pieces
    by_operand pieces (Good meaning good o) p =
        instruction_plain (constants_of state) state.widths m text meaning pieces (known_small state sound) short good
        (sym (ap (λ (x : Answer Meaning). x >>= instruction (constants_of state) state.widths m) o) ∙ p)
    by_operand pieces (Bad bad o) p =
        let none : (bad_meaning >>= instruction (constants_of state) state.widths m) ≡ Ok pieces = sym (ap (λ (x : Answer Meaning). x >>= instruction (constants_of state) state.widths m) o) ∙ p in absurd cc
    by_operand pieces (Large large o) p =
        let none : (large_meaning >>= instruction (constants_of state) state.widths m) ≡ Ok pieces = sym (ap (λ (x : Answer Meaning). x >>= instruction (constants_of state) state.widths m) o) ∙ p in absurd cc

-- a record with a number of 32 bits
align_plain : (n : ℕ) → n < 2 ^ 32 → ArePlain (Align n ∷ [])
align_plain n small = (record { spelled = λ at cells. small; inner = refl }, tt)

org_plain : (n : ℕ) → n < 2 ^ 31 → ArePlain (Org n ∷ [])
org_plain n small = (record { spelled = λ at cells. small; inner = refl }, tt)

space_plain : (n : ℕ) → n < 2 ^ 32 → ArePlain (Space n ∷ [])
space_plain n small = (record { spelled = λ at cells. small; inner = refl }, tt)

using_plain : (name : List ℕ) → IsNameLength name → ArePlain (Using name ∷ [])
using_plain name is = (record { spelled = λ at cells. is; inner = refl }, tt)

equate_plain : (global : Bool) (name : List ℕ) (t : Tree) → IsNameLength name → IsTree 0 t → pending 1 t ≤ 64 → IsPlain (equate global name t)
equate_plain global name t is fine shallow =
    record { spelled = λ at cells. (is, (omega arith, omega arith, omega arith), is_written t fine (subst (λ (k : ℕ). k ≤ 64) (pending-one t) shallow)); inner = refl }

amount_tree : (a : Amount) → IsFineAmount 1 a → IsTree 0 (tree_of_amount a) × (pending 1 (tree_of_amount a) ≤ 64)
amount_tree (Known n) fine = (fine, omega arith)
amount_tree (Written t) fine = fine

amount_value : (a : Amount) (n : ℕ) → IsFineAmount 1 a → value_of a ≡ Some n → n < 2 ^ 32
amount_value (Known m) n fine e = subst (λ (k : ℕ). k < 2 ^ 32) (same m n e) fine
  where
    same : (m n : ℕ) → Some m ≡ Some n → m ≡ n
    same m n e = cc
amount_value (Written t) n fine e = absurd cc

equating_sound : (state next : State) (global : Bool) (text : List ℕ) (label : Answer (List ℕ)) (found : Option Tree) → IsSound state → length text ≤ 255 → ((name : List ℕ) → label ≡ Ok name → IsNameLength name)
    → IsFormula text found → equating state global label found ≡ Ok next → IsSound next
equating_sound state next global text label found sound short is formula e =
    let all = bind_ok (pair_or_earlier_fault label (formula_of found >>= amount (constants_of state))) _ next e in
    let parts = both_ok label (formula_of found >>= amount (constants_of state)) all.0 all.1 in
    let t = bind_ok (formula_of found) (amount (constants_of state)) all.0.1 parts.1 in
    let fine = fine_formula text found t.0 short formula t.1 in
    let a = fine_amount (constants_of state) (known_small state sound) 1 t.0 all.0.1 fine.0 fine.1 t.2 in
    let tree = amount_tree all.0.1 a in
    subst IsSound (same_okay (in_segment (with_equate global all.0.0 all.0.1) state) next all.2)
    (change_sound (with_equate global all.0.0 all.0.1) state sound
    (λ s p. grown_sound all.0.0 (value_of all.0.1) [] (equate global all.0.0 (tree_of_amount all.0.1) ∷ []) s p (λ n v. amount_value all.0.1 n a v) tt
    (equate_plain global all.0.0 (tree_of_amount all.0.1) (is all.0.0 parts.0) tree.0 tree.1, tt)))

outside_sound : (state next : State) (text : List ℕ) (label : Answer (List ℕ)) (found : Option Tree) → IsSound state → length text ≤ 255 → ((name : List ℕ) → label ≡ Ok name → IsNameLength name)
    → IsFormula text found → equating_outside state label found ≡ Ok next → IsSound next
outside_sound state next text label found sound short is formula e =
    let all = bind_ok (pair_or_earlier_fault label (number_in state found)) _ next e in
    let parts = both_ok label (number_in state found) all.0 all.1 in
    let small = number_small state text found all.0.1 sound short formula parts.1 in
    subst IsSound (same_okay _ next all.2) (record {
      outside = λ name n v. by_name all.0.0 all.0.1 name n small (bytes_eq all.0.0 name) v;
      org = sound.org;
      align = sound.align;
      front = all-append IsPlain state.front (equate true all.0.0 (Leaf (Constant all.0.1)) ∷ []) sound.front
          (equate_plain true all.0.0 (Leaf (Constant all.0.1)) (is all.0.0 parts.0) small (omega arith), tt);
      segment = sound.segment;
      ended = sound.ended;
    })
  where
    same : (m n : ℕ) → Some m ≡ Some n → m ≡ n
    same m n e = cc

    by_name : (given : List ℕ) (m : ℕ) (name : List ℕ) (n : ℕ) → m < 2 ^ 32 → (b : Bool) → cond b (Some m) (state.outside name) ≡ Some n → n < 2 ^ 32
    by_name given m name n small true v = subst (λ (k : ℕ). k < 2 ^ 32) (same m n v) small
    by_name given m name n small false v = sound.outside name n v

global_sound : (state next : State) (o : Option StartedSegment) (text : List ℕ) (label : Answer (List ℕ)) (found : Option Tree) → IsSound state → length text ≤ 255 → ((name : List ℕ) → label ≡ Ok name → IsNameLength name)
    → IsFormula text found → equating_global state o label found ≡ Ok next → IsSound next
global_sound state next None text label found sound short is formula e = outside_sound state next text label found sound short is formula e
global_sound state next (Some s) text label found sound short is formula e = equating_sound state next true text label found sound short is formula e

spacing_sound : (state next : State) (text : List ℕ) (label : Answer (List ℕ)) (found : Option Tree) → IsSound state → length text ≤ 255 → ((name : List ℕ) → label ≡ Ok name → IsLabelText name)
    → IsFormula text found → spacing state label found ≡ Ok next → IsSound next
spacing_sound state next text label found sound short is formula e =
    let all = bind_ok (pair_or_earlier_fault label (number_in state found)) _ next e in
    let parts = both_ok label (number_in state found) all.0 all.1 in
    subst IsSound (same_okay (in_segment (with_local_record all.0.0 0x4E (Space all.0.1 ∷ [])) state) next all.2)
    (mark_sound all.0.0 0x4E (Space all.0.1 ∷ []) state sound (is all.0.0 parts.0) (omega arith) (space_plain all.0.1 (number_small state text found all.0.1 sound short formula parts.1)))

same_number : (b : Bool) (m n : ℕ) → cond b (okay m) bad_number' ≡ Ok n → m ≡ n
same_number true m n e = same_okay m n e
same_number false m n e = absurd cc

alignment_same : (state : State) (m n : ℕ) → alignment_in state m ≡ Ok n → m ≡ n
alignment_same state m n e = same_number (Rattle.asm_meaning.specs.laws.Steps.is_alignment state.segment m) m n e

aligned_sound : (state : State) (o : Option StartedSegment) (label : List ℕ) (n : ℕ) → IsSound state → IsLabelText label → n < 2 ^ 32 → IsSound (state_after_align state o label n)
aligned_sound state None label n sound is small = record { outside = sound.outside; org = sound.org; align = small; front = sound.front; segment = sound.segment; ended = sound.ended }
aligned_sound state (Some s) label n sound is small = mark_sound label 0x4E (Align n ∷ []) state sound is (omega arith) (align_plain n small)

aligning_sound : (state next : State) (text : List ℕ) (label : Answer (List ℕ)) (found : Option Tree) → IsSound state → length text ≤ 255 → ((name : List ℕ) → label ≡ Ok name → IsLabelText name)
    → IsFormula text found → align_state state label found ≡ Ok next → IsSound next
aligning_sound state next text label found sound short is formula e =
    let all = bind_ok (pair_or_earlier_fault label (number_in state found >>= alignment_in state)) _ next e in
    let parts = both_ok label (number_in state found >>= alignment_in state) all.0 all.1 in
    let n = bind_ok (number_in state found) (alignment_in state) all.0.1 parts.1 in
    let small = subst (λ (k : ℕ). k < 2 ^ 32) (alignment_same state n.0 all.0.1 n.2) (number_small state text found n.0 sound short formula n.1) in
    subst IsSound (same_okay (state_after_align state state.segment all.0.0 all.0.1) next all.2) (aligned_sound state state.segment all.0.0 all.0.1 sound (is all.0.0 parts.0) small)

-- how far ORG goes
abbrev IsDistanceIn : Option StartedSegment → ℕ → Type 0
IsDistanceIn None n = n < 2 ^ 32
IsDistanceIn (Some s) n = n < 2 ^ 31

distance_small : (o : Option StartedSegment) (m n : ℕ) → m < 2 ^ 32 → distance_in o m ≡ Ok n → IsDistanceIn o n
distance_small None m n small e = subst (λ (k : ℕ). k < 2 ^ 32) (same_okay m n e) small
distance_small (Some s) m n small e = by_size (ltb m (2 ^ 31)) refl e
  where
    by_size : (b : Bool) → ltb m (2 ^ 31) ≡ b → cond b (okay m) bad_number' ≡ Ok n → n < 2 ^ 31
    by_size true is e = subst (λ (k : ℕ). k < 2 ^ 31) (same_okay m n e) (ltb-true m (2 ^ 31) is)
    by_size false is e = absurd cc

moved_sound : (state : State) (o : Option StartedSegment) (label : List ℕ) (n : ℕ) → IsSound state → IsLabelText label → IsDistanceIn o n → IsSound (state_after_org state o label n)
moved_sound state None label n sound is small = record { outside = sound.outside; org = small; align = sound.align; front = sound.front; segment = sound.segment; ended = sound.ended }
moved_sound state (Some s) label n sound is small = mark_sound label 0x4E (Org n ∷ []) state sound is (omega arith) (org_plain n small)

-- the formula of ORG is one of its operand
move_text : (o : Option StartedSegment) (text : List ℕ) (found : Option Tree) → length text ≤ 255 → IsMove o text found → (following : List ℕ) × (length following ≤ 255) × IsFormula following found
move_text None text found short is = (text, short, is)
move_text (Some s) [] found short is = ([], omega arith, by_none found is)
  where
    by_none : (found : Option Tree) → found ≡ None → IsFormula [] found
    by_none None e = λ tree means. Rattle.orca_meaning.specs.laws.OperandLaws.none_in_nothing Labels tree [] means
    by_none (Some tree) e = absurd cc
move_text (Some s) (byte ∷ []) found short is = ([], omega arith, by_none found is)
  where
    by_none : (found : Option Tree) → found ≡ None → IsFormula [] found
    by_none None e = λ tree means. Rattle.orca_meaning.specs.laws.OperandLaws.none_in_nothing Labels tree [] means
    by_none (Some tree) e = absurd cc
move_text (Some s) (byte ∷ next ∷ following) found short is = by_here (eqb byte 0x2A && eqb next 0x2B) is
  where
    by_none : (found : Option Tree) → found ≡ None → IsFormula [] found
    by_none None e = λ tree means. Rattle.orca_meaning.specs.laws.OperandLaws.none_in_nothing Labels tree [] means
    by_none (Some tree) e = absurd cc

    by_here : (b : Bool) → IsMoveText (cond b (Some following) None) found → (text : List ℕ) × (length text ≤ 255) × IsFormula text found
    by_here true is = (following, omega (arith, short), is)
    by_here false is = ([], omega arith, by_none found is)

moving_sound : (state next : State) (text : List ℕ) (label : Answer (List ℕ)) (found : Option Tree) → IsSound state → length text ≤ 255 → ((name : List ℕ) → label ≡ Ok name → IsLabelText name)
    → IsFormula text found → moving state label found ≡ Ok next → IsSound next
moving_sound state next text label found sound short is formula e =
    let all = bind_ok (pair_or_earlier_fault label (number_in state found >>= distance_in state.segment)) _ next e in
    let parts = both_ok label (number_in state found >>= distance_in state.segment) all.0 all.1 in
    let n = bind_ok (number_in state found) (distance_in state.segment) all.0.1 parts.1 in
    let small = distance_small state.segment n.0 all.0.1 (number_small state text found n.0 sound short formula n.1) n.2 in
    subst IsSound (same_okay (state_after_org state state.segment all.0.0 all.0.1) next all.2) (moved_sound state state.segment all.0.0 all.0.1 sound (is all.0.0 parts.0) small)

kind_listed : (m n : ℕ) → listed_kind m ≡ Ok n → (is_listed (form_of n) ≡ true) × (n < 2 ^ 16)
kind_listed m n e = by_listed (is_listed (form_of m)) refl e
  where
    IsKind : ℕ → Type 0
    IsKind k = (is_listed (form_of k) ≡ true) × (k < 2 ^ 16)

    by_size : (b : Bool) → ltb 0xFFFF m ≡ b → is_listed (form_of m) ≡ true → cond b no_fit (okay m) ≡ Ok n → IsKind n
    by_size true is listed e = absurd cc
    by_size false is listed e = subst IsKind (same_okay m n e) (listed, omega (arith, ltb-false 0xFFFF m is))

    by_listed : (b : Bool) → is_listed (form_of m) ≡ b → cond (not b) bad_number' (cond (ltb 0xFFFF m) no_fit (okay m)) ≡ Ok n → IsKind n
    by_listed true is e = by_size (ltb 0xFFFF m) refl is e
    by_listed false is e = absurd cc

with_kind_sound : (n : ℕ) (s : StartedSegment) → IsSoundSegment s → is_listed (form_of n) ≡ true → n < 2 ^ 16 → IsSoundSegment (with_kind n s)
with_kind_sound n s sound listed small = record {
  header = record {
    version = sound.header.version;
    res_spc = sound.header.res_spc;
    entry = sound.header.entry;
    bank_size = sound.header.bank_size;
    kind = small;
    listed = listed;
    org = sound.header.org;
    align = sound.header.align;
    seg_num = sound.header.seg_num;
    load_name = sound.header.load_name;
    name = sound.header.name;
  };
  names = sound.names;
  body = sound.body;
}

kinding_sound : (state next : State) (label : Answer (List ℕ)) (found : Option Tree) → IsSound state → ((name : List ℕ) → label ≡ Ok name → IsLabelText name)
    → kinding state label found ≡ Ok next → IsSound next
kinding_sound state next label found sound is e =
    let all = bind_ok (pair_or_earlier_fault label (number_in state found >>= listed_kind)) _ next e in
    let parts = both_ok label (number_in state found >>= listed_kind) all.0 all.1 in
    let n = bind_ok (number_in state found) listed_kind all.0.1 parts.1 in
    let kind = kind_listed n.0 all.0.1 n.2 in
    let change : StartedSegment → StartedSegment = λ s. with_kind all.0.1 (with_local_record all.0.0 0x4E [] s) in
    subst IsSound (same_okay (in_segment change state) next all.2)
    (change_sound change state sound (λ s p. with_kind_sound all.0.1 (with_local_record all.0.0 0x4E [] s) (marked_sound all.0.0 0x4E [] s p (is all.0.0 parts.0) (omega arith) tt) kind.0 kind.1))

-- what an operation leaves, before its length is judged
done_sound : (state next : State) (line : Line) (operation : Operation) (label : Answer (List ℕ)) (text : List ℕ) → IsSound state → IsShort state → length text ≤ 255
    → ((name : List ℕ) → label ≡ Ok name → IsLabelOf operation name) → IsDone state line operation label text (Ok next) → IsSound next
unfolding IsDone
done_sound state next line (Instruct m) label text sound few short is done =
    mark_keeps state next 0x4D label _ sound (λ name e. (is name e).fine) (omega arith) (λ found e. instruction_records state m text done.0 found sound short done.1 e) (sym done.2)
done_sound state next line (Direct (directives.Begin class)) label text sound few short is done =
    let all = bind_ok (pair_or_earlier_fault label (load_name_of text)) _ next (sym done) in
    let parts = both_ok label (load_name_of text) all.0 all.1 in
    subst IsSound (same_okay (state_after_start state line class all.0.0 all.0.1) next all.2) (begun_sound state line class all.0.0 all.0.1 sound ((is all.0.0 parts.0).needed' refl) (load_name_ten text all.0.1 parts.1))
done_sound state next line (Direct directives.End) label text sound few short is done =
    let left = bind_ok (marking state 0x4E label (okay (End ∷ []))) (λ x. okay (state_after_end x)) next (sym done) in
    let all = bind_ok (pair_or_earlier_fault label (okay (End ∷ []))) (λ (name, found). okay (in_segment (with_local_record name 0x4E found) state)) left.0 left.1 in
    let parts = both_ok label (okay (End ∷ [])) all.0 all.1 in
    let ends : End ∷ [] ≡ all.0.1 = same_okay (End ∷ []) all.0.1 parts.1 in
    let here : in_segment (with_local_record all.0.0 0x4E (End ∷ [])) state ≡ left.0 = ap (λ (r : List Record). in_segment (with_local_record all.0.0 0x4E r) state) ends ∙ same_okay _ left.0 all.2 in
    subst IsSound (ap state_after_end here ∙ same_okay (state_after_end left.0) next left.2) (ends_sound all.0.0 state sound few (is all.0.0 parts.0).fine)
done_sound state next line (Direct directives.Entry) label text sound few short is done =
    let all = bind_ok label (λ name. okay (in_segment (with_records name None (Label true name 0 0x4E 0 ∷ []) []) state)) next (sym done) in
    let name = (is all.0 all.1).needed' refl in
    subst IsSound (same_okay _ next all.2) (change_sound (with_records all.0 None (Label true all.0 0 0x4E 0 ∷ []) []) state sound
    (λ s p. grown_sound all.0 None (Label true all.0 0 0x4E 0 ∷ []) [] s p (λ n e. absurd (none_some n e)) (record { spelled = λ at cells. (name, (omega arith, omega arith, omega arith)); inner = refl }, tt) tt))
done_sound state next line (Direct directives.Using) label text sound few short is done =
    mark_keeps state next 0x4E label _ sound (λ name e. (is name e).fine) (omega arith)
    (λ found e. let name = bind_ok (name_of text) (λ n. okay (Using n ∷ [])) found e in subst ArePlain (same_okay (Using name.0 ∷ []) found name.2) (using_plain name.0 (using_name text name.0 short name.1))) (sym done)
done_sound state next line (Direct directives.Equ) label text sound few short is done =
    equating_sound state next false text label done.0 sound short (λ name e. (is name e).needed' refl) done.1 (sym done.2)
done_sound state next line (Direct directives.Gequ) label text sound few short is done =
    global_sound state next state.segment text label done.0 sound short (λ name e. (is name e).needed' refl) done.1 (sym done.2)
done_sound state next line (Direct directives.Constants) label text sound few short is done =
    mark_keeps state next 0x4E label _ sound (λ name e. (is name e).fine) (omega arith)
    (λ found e. pieces_records (list_pieces (constants_of state) state.msb done.0) found (λ pieces p. list_plain (constants_of state) state.msb text done.0 pieces (known_small state sound) short done.1 p) e) (sym done.2)
done_sound state next line (Direct directives.Space) label text sound few short is done = spacing_sound state next text label done.0 sound short (λ name e. (is name e).fine) done.1 (sym done.2)
done_sound state next line (Direct directives.Align) label text sound few short is done = aligning_sound state next text label done.0 sound short (λ name e. (is name e).fine) done.1 (sym done.2)
done_sound state next line (Direct directives.Org) label text sound few short is done =
    let formula = move_text state.segment text done.0 short done.1 in
    moving_sound state next formula.0 label done.0 sound formula.1 (λ name e. (is name e).fine) formula.2 (sym done.2)
done_sound state next line (Direct directives.Kind) label text sound few short is done = kinding_sound state next label done.0 sound (λ name e. (is name e).fine) (sym done.2)
done_sound state next line (Direct (directives.Turn switch)) label text sound few short is done =
    let all = bind_ok (pair_or_earlier_fault label (switch_of text)) _ next (sym done) in
    let parts = both_ok label (switch_of text) all.0 all.1 in
    subst IsSound (same_okay _ next all.2) (turned_sound switch all.0.1 (in_segment (with_local_record all.0.0 0x4E []) state) (mark_sound all.0.0 0x4E [] state sound (is all.0.0 parts.0).fine (omega arith) tt))
done_sound state next line (Direct directives.Nothing) label text sound few short is done =
    mark_keeps state next 0x4E label (Ok []) sound (λ name e. (is name e).fine) (omega arith) (λ found e. subst ArePlain (same_okay [] found e) tt) (sym done)
done_sound state next line (Direct directives.Ignored) label text sound few short is done =
    mark_keeps state next 0x4E label (Ok []) sound (λ name e. (is name e).fine) (omega arith) (λ found e. subst ArePlain (same_okay [] found e) tt) (sym done)

greatest-le : (c : Class) → greatest_length c ≤ 0xFFFFFF
greatest-le Code = omega arith
greatest-le PrivateCode = omega arith
greatest-le Data = omega arith
greatest-le PrivateData = omega arith

length_short : (state next : State) → within_length state ≡ Ok next → (state ≡ next) × IsShort next
length_short state next e = by_long (is_too_long state.segment) refl e
  where
    by_segment : (o : Option StartedSegment) → is_too_long o ≡ false → InSegment (λ s. cells_of s ≤ 0xFFFFFF) o
    by_segment None is = tt
    by_segment (Some s) is = omega (arith, ltb-false (greatest_length s.class) (cells_of s) is, greatest-le s.class)

    by_long : (b : Bool) → is_too_long state.segment ≡ b → cond b too_long (okay state) ≡ Ok next → (state ≡ next) × IsShort next
    by_long true is e = absurd cc
    by_long false is e = let same = same_okay state next e in (same, subst IsShort same (by_segment state.segment is))

-- each line without a fault keeps it
pub step_sound : (state next : State) (line : Line) → length line.text ≤ 255 → IsSound state → IsShort state → IsStep state line (Ok next) → IsSound next × IsShort next
step_sound state next line short sound few step =
    by_operation (operation_of (part line.text line.fields.operation)) step
  where
    label : List ℕ
    label = part line.text line.fields.label

    operand : List ℕ
    operand = part line.text line.fields.operand

    by_place : (operation : Operation) (misplaced : Bool) → IsPlaced state line operation label operand misplaced (Ok next) → IsSound next × IsShort next
    by_place operation true is = absurd cc
    by_place operation false is =
        let left = bind_ok is.0 within_length next (sym is.2) in
        let last = length_short left.0 next left.2 in
        let done : IsDone state line operation (label_of state operation label) operand (Ok left.0) = subst (IsDone state line operation (label_of state operation label) operand) left.1 is.1 in
        let keeps = done_sound state left.0 line operation (label_of state operation label) operand sound few (omega (arith, part-le line.text line.fields.operand, short))
        (λ name e. label_is state operation label name (omega (arith, part-le line.text line.fields.label, short)) e) done in
        (subst IsSound last.0 keeps, last.1)

    by_operation : (o : Option Operation) → IsKnown state line o label operand (Ok next) → IsSound next × IsShort next
    by_operation None is = absurd cc
    by_operation (Some operation) is = by_place operation (is_misplaced state.segment operation label operand) is
