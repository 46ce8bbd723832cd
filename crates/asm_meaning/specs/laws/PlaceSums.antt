-- Why a label's place is the sum of the lengths of the statements before it in its segment.
use Rattle.std.proofs.Common.{◌≡◌, ◌≢◌, ℕ, ◌+◌, Bool, true, false, List, [], ◌∷◌, ◌++◌, Option, Some, None, Ok, Err, refl, sym, ap, subst, ◌∙◌, arith}
use Rattle.std.specs.Prelude.{sum}
use Rattle.std.specs.Option.{option_map}
use Rattle.std.proofs.lemmas.List.Sums.{sum_by-cons}
use Rattle.omf_format.specs.Field.{◌>>=◌}
use Rattle.omf_format.specs.laws.FieldLaws.{bind_ok}
use Rattle.omf_format.specs.Expression.{Tree, Leaf, Constant}
use Rattle.omf_format.specs.Record.{Record, End, Align, Org, Space, Label}
use Rattle.orca_meaning.specs.Line.{Line, part}
use Rattle.asm_meaning.specs.declared.directives.Class.{Class}
use Rattle.asm_meaning.specs.declared.directives.Switch.{Switch}
use Rattle.asm_meaning.specs.declared.directives.Switch.TheVariants.{LongA, LongI, Msb}
use Rattle.asm_meaning.specs.declared.directives.Directive.TheVariants as directives
use Rattle.asm_meaning.specs.declared.directives.Operation.{Operation}
use Rattle.asm_meaning.specs.declared.directives.Operation.TheVariants.{Instruct, Direct}
use Rattle.asm_meaning.specs.declared.faults.AsmCause.TheVariants.{SegmentTooLong}
use Rattle.asm_meaning.specs.Answer.{Answer, pair_or_earlier_fault}
use Rattle.asm_meaning.specs.Constant.{amount, tree_of_amount}
use Rattle.asm_meaning.specs.Formulas.{formula_of}
use Rattle.asm_meaning.specs.Operations.{operation_of}
use Rattle.asm_meaning.specs.Pieces.{place_after, length_at}
use Rattle.asm_meaning.specs.State.{StartedSegment, State, start, cells_of, state_after_start, state_after_end, local_of, with_records, with_local_record, in_segment, within_length, with_switch_set}
use Rattle.asm_meaning.specs.laws.Steps.{is_too_long, equating_global, IsPlaced, IsKnown}
use Rattle.asm_meaning.specs.Statement.{is_misplaced, begins_segment, label_of, load_name_of, switch_of, constants_of, number_in, alignment_in, distance_in, listed_kind, state_after_align, state_after_org, with_kind, equate, with_equate, equating, marking, IsDone, IsStep}
use Rattle.asm_meaning.specs.Object.{AreSteps}
use Rattle.asm_meaning.specs.LabelLaws.{HasPut, IsWithin, AreWithin, HaveNoEnd, PlaceIsSum}
use Rattle.asm_meaning.specs.laws.InstructionLaws.{both_ok}
use Rattle.asm_meaning.specs.laws.PieceLaws.{place_after-append}
use Rattle.asm_meaning.specs.laws.LabelProofs.{lengths_add}

abbrev okay : {A : Type 0} → A → Answer A
okay a = Ok a

abbrev too_long : Answer State
too_long = Err SegmentTooLong

same_okay : {A : Type 0} (x y : A) → okay x ≡ okay y → x ≡ y
same_okay x y e = cc

-- what is left where the segment isn't too long
within_same : (state next : State) → within_length state ≡ Ok next → state ≡ next
within_same state next e = by_long (is_too_long state.segment) e
  where
    by_long : (b : Bool) → Rattle.std.proofs.Common.cond b too_long (okay state) ≡ Ok next → state ≡ next
    by_long true e = absurd cc
    by_long false e = same_okay state next e

-- ---- records that give no cells

no_cells : (before : List Record) (r : Record) → ((at : ℕ) → place_after at (r ∷ []) ≡ at) → place_after 0 (before ++ r ∷ []) ≡ place_after 0 before
no_cells before r none = place_after-append 0 before (r ∷ []) ∙ none (place_after 0 before)

equate_no_cells : (global : Bool) (label : List ℕ) (tree : Tree) (at : ℕ) → place_after at (equate global label tree ∷ []) ≡ at
unfolding place_after
equate_no_cells global label tree at = omega arith

label_no_cells : (label : List ℕ) (at : ℕ) → place_after at (Label true label 0 0x4E 0 ∷ []) ≡ at
unfolding place_after
label_no_cells label at = omega arith

-- ---- what a statement does to the open segment

-- the segment is left open, with this put at its end, and its cells grow by the statement's length
record WithinAs (Put : List ℕ → StartedSegment → StartedSegment → ℕ → Type 0) (s : StartedSegment) (label : Answer (List ℕ)) (next : State) : Type 0 where
  name : List ℕ
  is_name : label ≡ Ok name
  t : StartedSegment
  open' : next.segment ≡ Some t
  size : ℕ
  puts : Put name s t size
  cells : cells_of t ≡ cells_of s + size

-- what most statements put there
abbrev Records : List ℕ → StartedSegment → StartedSegment → ℕ → Type 0
Records label s t size =
    (form : ℕ) × (contents : List Record) × (t.body ≡ s.body ++ (local_of label form size ++ contents)) × (size ≡ length_at (cells_of s) contents)

changed_open : (change : StartedSegment → StartedSegment) (state : State) (s : StartedSegment) → state.segment ≡ Some s → (in_segment change state).segment ≡ Some (change s)
changed_open change state s there = ap (option_map change) there

-- a statement that changes the segment by its label and by what its operand gives
changed : {A : Type 0} (Put : List ℕ → StartedSegment → StartedSegment → ℕ → Type 0) (state next : State) (s : StartedSegment) (label : Answer (List ℕ)) (given : Answer A) (change : List ℕ → A → StartedSegment → StartedSegment) (size : List ℕ → A → ℕ)
    → state.segment ≡ Some s → ((name : List ℕ) (a : A) → Put name s (change name a s) (size name a)) → ((name : List ℕ) (a : A) → cells_of (change name a s) ≡ cells_of s + size name a)
    → (pair_or_earlier_fault label given >>= λ (name, a). okay (in_segment (change name a) state)) ≡ Ok next → WithinAs Put s label next
changed Put state next s label given change size there puts cells e =
    let all = bind_ok (pair_or_earlier_fault label given) _ next e in
    let parts = both_ok label given all.0 all.1 in
    let same : in_segment (change all.0.0 all.0.1) state ≡ next = same_okay _ next all.2 in
    record {
      name = all.0.0;
      is_name = parts.0;
      t = change all.0.0 all.0.1 s;
      open' = sym (ap (λ (x : State). x.segment) same) ∙ changed_open (change all.0.0 all.0.1) state s there;
      size = size all.0.0 all.0.1;
      puts = puts all.0.0 all.0.1;
      cells = cells all.0.0 all.0.1;
    }

-- one that has records
recorded : (form : ℕ) (contents : List Record) (s : StartedSegment) (name : List ℕ) → Records name s (with_local_record name form contents s) (length_at (cells_of s) contents)
recorded form contents s name = (form, contents, refl, refl)

marks : (state next : State) (s : StartedSegment) (form : ℕ) (label : Answer (List ℕ)) (contents : Answer (List Record)) → state.segment ≡ Some s → marking state form label contents ≡ Ok next
    → WithinAs Records s label next
marks state next s form label contents there e =
    changed Records state next s label contents (λ name found. with_local_record name form found) (λ name found. length_at (cells_of s) found) there
    (λ name found. recorded form found s name) (λ name found. lengths_add name form found s) e

-- EQU and GEQU
equates : (Put : List ℕ → StartedSegment → StartedSegment → ℕ → Type 0) (state next : State) (s : StartedSegment) (global : Bool) (label : Answer (List ℕ)) (found : Option Tree) → state.segment ≡ Some s
    → ((name : List ℕ) (t : StartedSegment) (tree : Tree) → t.body ≡ s.body ++ equate global name tree ∷ [] → Put name s t 0)
    → equating state global label found ≡ Ok next → WithinAs Put s label next
equates Put state next s global label found there puts e =
    changed Put state next s label (formula_of found >>= amount (constants_of state)) (λ name a. with_equate global name a) (λ name a. 0) there
    (λ name a. puts name (with_equate global name a s) (tree_of_amount a) refl)
    (λ name a. let none = no_cells s.body (equate global name (tree_of_amount a)) (equate_no_cells global name (tree_of_amount a)) in omega (arith, none)) e

turned_open : (switch : Switch) (on : Bool) (state : State) → (with_switch_set switch on state).segment ≡ state.segment
turned_open LongA on state = refl
turned_open LongI on state = refl
turned_open Msb on state = refl

abbrev Within : Operation → StartedSegment → Answer (List ℕ) → State → Type 0
Within operation s label next = WithinAs (HasPut operation) s label next

done_within : (state next : State) (s : StartedSegment) (line : Line) (operation : Operation) (label : Answer (List ℕ)) (text : List ℕ) → state.segment ≡ Some s → begins_segment operation ≡ false
    → (operation ≡ Direct directives.End → ⊥) → IsDone state line operation label text (Ok next) → Within operation s label next
unfolding IsDone
done_within state next s line (Instruct m) label text there inside goes done = marks state next s 0x4D label _ there (sym done.2)
done_within state next s line (Direct (directives.Begin class)) label text there inside goes done = let clash : true ≡ false = inside in absurd cc
done_within state next s line (Direct directives.End) label text there inside goes done = absurd (goes refl)
done_within state next s line (Direct directives.Entry) label text there inside goes done =
    let all = bind_ok label (λ name. okay (in_segment (with_records name None (Label true name 0 0x4E 0 ∷ []) []) state)) next (sym done) in
    let change : StartedSegment → StartedSegment = with_records all.0 None (Label true all.0 0 0x4E 0 ∷ []) [] in
    record {
      name = all.0;
      is_name = all.1;
      t = change s;
      open' = sym (ap (λ (x : State). x.segment) (same_okay (in_segment change state) next all.2)) ∙ changed_open change state s there;
      size = 0;
      puts = (refl, refl);
      cells = let none = no_cells s.body (Label true all.0 0 0x4E 0) (label_no_cells all.0) in omega (arith, none);
    }
done_within state next s line (Direct directives.Using) label text there inside goes done = marks state next s 0x4E label _ there (sym done)
done_within state next s line (Direct directives.Equ) label text there inside goes done =
    equates (HasPut (Direct directives.Equ)) state next s false label done.0 there (λ name t tree e. (tree, e, refl)) (sym done.2)
done_within state next s line (Direct directives.Gequ) label text there inside goes done =
    equates (HasPut (Direct directives.Gequ)) state next s true label done.0 there (λ name t tree e. (tree, e, refl))
    (subst (λ (o : Option StartedSegment). equating_global state o label done.0 ≡ Ok next) there (sym done.2))
done_within state next s line (Direct directives.Constants) label text there inside goes done = marks state next s 0x4E label _ there (sym done.2)
done_within state next s line (Direct directives.Space) label text there inside goes done =
    changed Records state next s label (number_in state done.0) (λ name n. with_local_record name 0x4E (Space n ∷ [])) (λ name n. length_at (cells_of s) (Space n ∷ [])) there
    (λ name n. recorded 0x4E (Space n ∷ []) s name) (λ name n. lengths_add name 0x4E (Space n ∷ []) s) (sym done.2)
done_within state next s line (Direct directives.Align) label text there inside goes done =
    changed Records state next s label (number_in state done.0 >>= alignment_in state) (λ name n. with_local_record name 0x4E (Align n ∷ [])) (λ name n. length_at (cells_of s) (Align n ∷ [])) there
    (λ name n. recorded 0x4E (Align n ∷ []) s name) (λ name n. lengths_add name 0x4E (Align n ∷ []) s)
    (subst (λ (o : Option StartedSegment). (pair_or_earlier_fault label (number_in state done.0 >>= alignment_in state) >>= λ (name, n). okay (state_after_align state o name n)) ≡ Ok next) there (sym done.2))
done_within state next s line (Direct directives.Org) label text there inside goes done =
    changed Records state next s label (number_in state done.0 >>= distance_in state.segment) (λ name n. with_local_record name 0x4E (Org n ∷ [])) (λ name n. length_at (cells_of s) (Org n ∷ [])) there
    (λ name n. recorded 0x4E (Org n ∷ []) s name) (λ name n. lengths_add name 0x4E (Org n ∷ []) s)
    (subst (λ (o : Option StartedSegment). (pair_or_earlier_fault label (number_in state done.0 >>= distance_in state.segment) >>= λ (name, n). okay (state_after_org state o name n)) ≡ Ok next) there (sym done.2))
done_within state next s line (Direct directives.Kind) label text there inside goes done =
    changed Records state next s label (number_in state done.0 >>= listed_kind) (λ name n. λ x. with_kind n (with_local_record name 0x4E [] x)) (λ name n. length_at (cells_of s) []) there
    (λ name n. (0x4E, [], refl, refl)) (λ name n. lengths_add name 0x4E [] s) (sym done.2)
done_within state next s line (Direct (directives.Turn switch)) label text there inside goes done =
    let all = bind_ok (pair_or_earlier_fault label (switch_of text)) _ next (sym done) in
    let parts = both_ok label (switch_of text) all.0 all.1 in
    let change : StartedSegment → StartedSegment = with_local_record all.0.0 0x4E [] in
    let same : with_switch_set switch all.0.1 (in_segment change state) ≡ next = same_okay _ next all.2 in
    record {
      name = all.0.0;
      is_name = parts.0;
      t = change s;
      open' = sym (ap (λ (x : State). x.segment) same) ∙ turned_open switch all.0.1 (in_segment change state) ∙ changed_open change state s there;
      size = length_at (cells_of s) [];
      puts = recorded 0x4E [] s all.0.0;
      cells = lengths_add all.0.0 0x4E [] s;
    }
done_within state next s line (Direct directives.Nothing) label text there inside goes done = marks state next s 0x4E label (okay []) there (sym done)
done_within state next s line (Direct directives.Ignored) label text there inside goes done = marks state next s 0x4E label (okay []) there (sym done)

-- a line in an open segment that isn't END
step_within : (state next : State) (s : StartedSegment) (line : Line) → state.segment ≡ Some s → (operation_of (part line.text line.fields.operation) ≢ Some (Direct directives.End)) → IsStep state line (Ok next)
    → (n : ℕ) × (t : StartedSegment) × IsWithin state s line n next t × (cells_of t ≡ cells_of s + n)
step_within state next s line there goes step = by_operation (operation_of (part line.text line.fields.operation)) refl step
  where
    label : List ℕ
    label = part line.text line.fields.label

    operand : List ℕ
    operand = part line.text line.fields.operand

    by_place : (operation : Operation) (misplaced : Bool) → operation_of (part line.text line.fields.operation) ≡ Some operation → begins_segment operation ≡ misplaced
        → IsPlaced state line operation label operand misplaced (Ok next) → (n : ℕ) × (t : StartedSegment) × IsWithin state s line n next t × (cells_of t ≡ cells_of s + n)
    by_place operation true is_operation misplaced is = absurd cc
    by_place operation false is_operation misplaced is =
        let left = bind_ok is.0 within_length next (sym is.2) in
        let last = within_same left.0 next left.2 in
        let done : IsDone state line operation (label_of state operation label) operand (Ok next) =
        subst (λ (x : State). IsDone state line operation (label_of state operation label) operand (okay x)) last (subst (IsDone state line operation (label_of state operation label) operand) left.1 is.1) in
        let w = done_within state next s line operation (label_of state operation label) operand there misplaced (λ e. goes (is_operation ∙ ap (λ (x : Operation). Some x) e)) done in
        (w.size, w.t, record { step = step; operation = operation; is_operation = is_operation; label = w.name; is_label = w.is_name; open' = w.open'; puts = w.puts }, w.cells)

    by_operation : (o : Option Operation) → operation_of (part line.text line.fields.operation) ≡ o → IsKnown state line o label operand (Ok next)
        → (n : ℕ) × (t : StartedSegment) × IsWithin state s line n next t × (cells_of t ≡ cells_of s + n)
    by_operation None is_operation is = absurd cc
    by_operation (Some operation) is_operation is =
        by_place operation (begins_segment operation) is_operation refl
        (subst (λ (o : Option StartedSegment). IsPlaced state line operation label operand (is_misplaced o operation label operand) (Ok next)) there is)

-- what lines of one segment leave, with their lengths
record Added (state : State) (s : StartedSegment) (lines : List Line) (last : State) : Type 0 where
  sizes : List ℕ
  t : StartedSegment
  within : AreWithin state s lines sizes last t
  open' : last.segment ≡ Some t
  cells : cells_of t ≡ cells_of s + sum sizes

lines_within : (state last : State) (s : StartedSegment) (lines : List Line) → state.segment ≡ Some s → AreSteps state lines last → HaveNoEnd lines → Added state s lines last
lines_within state last s [] there steps go =
    record { sizes = []; t = s; within = (steps, refl); open' = sym (ap (λ (x : State). x.segment) steps) ∙ there; cells = omega arith }
lines_within state last s (line ∷ lines) there steps go =
    let one = step_within state steps.0 s line there go.0 steps.1 in
    let rest = lines_within steps.0 last one.1 lines one.2.open' steps.2 go.1 in
    record {
      sizes = one.0 ∷ rest.sizes;
      t = rest.t;
      within = (steps.0, one.1, one.2, rest.within);
      open' = rest.open';
      cells = omega (arith, rest.cells, one.3, sum_by-cons {X = ℕ} (λ n. n) one.0 rest.sizes);
    }

-- ---- what waits for the next segment gives no cells

abbrev NoCells : State → Type 0
NoCells state = place_after 0 state.front ≡ 0

made_none : {A : Type 0} (next : State) (label : Answer (List ℕ)) (given : Answer A) (make : List ℕ → A → State) → ((name : List ℕ) (a : A) → NoCells (make name a))
    → (pair_or_earlier_fault label given >>= λ (name, a). okay (make name a)) ≡ Ok next → NoCells next
made_none next label given make each e =
    let all = bind_ok (pair_or_earlier_fault label given) _ next e in
    subst NoCells (same_okay (make all.0.0 all.0.1) next all.2) (each all.0.0 all.0.1)

begun_none : (state : State) (line : Line) (class : Class) (name load_name : List ℕ) → NoCells (state_after_start state line class name load_name)
unfolding place_after
begun_none state line class name load_name = refl

aligned_none : (state : State) (o : Option StartedSegment) (name : List ℕ) (n : ℕ) → NoCells state → NoCells (state_after_align state o name n)
aligned_none state None name n none = none
aligned_none state (Some s) name n none = none

moved_none : (state : State) (o : Option StartedSegment) (name : List ℕ) (n : ℕ) → NoCells state → NoCells (state_after_org state o name n)
moved_none state None name n none = none
moved_none state (Some s) name n none = none

turned_none : (switch : Switch) (on : Bool) (state : State) → NoCells state → NoCells (with_switch_set switch on state)
turned_none LongA on state none = none
turned_none LongI on state none = none
turned_none Msb on state none = none

equating_none : (state next : State) (global : Bool) (label : Answer (List ℕ)) (found : Option Tree) → NoCells state → equating state global label found ≡ Ok next → NoCells next
equating_none state next global label found none e =
    made_none next label (formula_of found >>= amount (constants_of state)) (λ name a. in_segment (with_equate global name a) state) (λ name a. none) e

global_none : (state next : State) (o : Option StartedSegment) (label : Answer (List ℕ)) (found : Option Tree) → NoCells state → equating_global state o label found ≡ Ok next → NoCells next
global_none state next None label found none e =
    made_none next label (number_in state found) _
    (λ name n. no_cells state.front (equate true name (Leaf (Constant n))) (equate_no_cells true name (Leaf (Constant n))) ∙ none) e
global_none state next (Some s) label found none e = equating_none state next true label found none e

marking_none : (state next : State) (form : ℕ) (label : Answer (List ℕ)) (contents : Answer (List Record)) → NoCells state → marking state form label contents ≡ Ok next → NoCells next
marking_none state next form label contents none e = made_none next label contents (λ name found. in_segment (with_local_record name form found) state) (λ name found. none) e

done_none : (state next : State) (line : Line) (operation : Operation) (label : Answer (List ℕ)) (text : List ℕ) → NoCells state → IsDone state line operation label text (Ok next) → NoCells next
unfolding IsDone
done_none state next line (Instruct m) label text none done = marking_none state next 0x4D label _ none (sym done.2)
done_none state next line (Direct (directives.Begin class)) label text none done =
    made_none next label (load_name_of text) (λ name load_name. state_after_start state line class name load_name) (λ name load_name. begun_none state line class name load_name) (sym done)
done_none state next line (Direct directives.End) label text none done =
    let left = bind_ok (marking state 0x4E label (okay (End ∷ []))) (λ x. okay (state_after_end x)) next (sym done) in
    subst NoCells (same_okay (state_after_end left.0) next left.2) (marking_none state left.0 0x4E label (okay (End ∷ [])) none left.1)
done_none state next line (Direct directives.Entry) label text none done =
    let all = bind_ok label (λ name. okay (in_segment (with_records name None (Label true name 0 0x4E 0 ∷ []) []) state)) next (sym done) in
    subst NoCells (same_okay _ next all.2) none
done_none state next line (Direct directives.Using) label text none done = marking_none state next 0x4E label _ none (sym done)
done_none state next line (Direct directives.Equ) label text none done = equating_none state next false label done.0 none (sym done.2)
done_none state next line (Direct directives.Gequ) label text none done = global_none state next state.segment label done.0 none (sym done.2)
done_none state next line (Direct directives.Constants) label text none done = marking_none state next 0x4E label _ none (sym done.2)
done_none state next line (Direct directives.Space) label text none done =
    made_none next label (number_in state done.0) (λ name n. in_segment (with_local_record name 0x4E (Space n ∷ [])) state) (λ name n. none) (sym done.2)
done_none state next line (Direct directives.Align) label text none done =
    made_none next label (number_in state done.0 >>= alignment_in state) (λ name n. state_after_align state state.segment name n) (λ name n. aligned_none state state.segment name n none) (sym done.2)
done_none state next line (Direct directives.Org) label text none done =
    made_none next label (number_in state done.0 >>= distance_in state.segment) (λ name n. state_after_org state state.segment name n) (λ name n. moved_none state state.segment name n none) (sym done.2)
done_none state next line (Direct directives.Kind) label text none done =
    made_none next label (number_in state done.0 >>= listed_kind) (λ name n. in_segment (λ x. with_kind n (with_local_record name 0x4E [] x)) state) (λ name n. none) (sym done.2)
done_none state next line (Direct (directives.Turn switch)) label text none done =
    made_none next label (switch_of text) (λ name on. with_switch_set switch on (in_segment (with_local_record name 0x4E []) state)) (λ name on. turned_none switch on (in_segment (with_local_record name 0x4E []) state) none) (sym done)
done_none state next line (Direct directives.Nothing) label text none done = marking_none state next 0x4E label (okay []) none (sym done)
done_none state next line (Direct directives.Ignored) label text none done = marking_none state next 0x4E label (okay []) none (sym done)

-- what a line's operation did, where the line has no fault
done_of : (state next : State) (line : Line) → IsStep state line (Ok next)
    → (operation : Operation) × (operation_of (part line.text line.fields.operation) ≡ Some operation)
    × IsDone state line operation (label_of state operation (part line.text line.fields.label)) (part line.text line.fields.operand) (Ok next)
done_of state next line step = by_operation (operation_of (part line.text line.fields.operation)) refl step
  where
    label : List ℕ
    label = part line.text line.fields.label

    operand : List ℕ
    operand = part line.text line.fields.operand

    by_place : (operation : Operation) (misplaced : Bool) → IsPlaced state line operation label operand misplaced (Ok next) → IsDone state line operation (label_of state operation label) operand (Ok next)
    by_place operation true is = absurd cc
    by_place operation false is =
        let left = bind_ok is.0 within_length next (sym is.2) in
        subst (λ (x : State). IsDone state line operation (label_of state operation label) operand (okay x)) (within_same left.0 next left.2)
        (subst (IsDone state line operation (label_of state operation label) operand) left.1 is.1)

    by_operation : (o : Option Operation) → operation_of (part line.text line.fields.operation) ≡ o → IsKnown state line o label operand (Ok next)
        → (operation : Operation) × (operation_of (part line.text line.fields.operation) ≡ Some operation) × IsDone state line operation (label_of state operation label) operand (Ok next)
    by_operation None is_operation is = absurd cc
    by_operation (Some operation) is_operation is = (operation, is_operation, by_place operation (is_misplaced state.segment operation label operand) is)

lines_none : (state last : State) (lines : List Line) → NoCells state → AreSteps state lines last → NoCells last
lines_none state last [] none steps = subst NoCells steps none
lines_none state last (line ∷ lines) none steps =
    let done = done_of state steps.0 line steps.1 in
    lines_none steps.0 last lines (done_none state steps.0 line done.0 (label_of state done.0 (part line.text line.fields.label)) (part line.text line.fields.operand) none done.2) steps.2

start_none : NoCells start
unfolding place_after
start_none = refl

-- ---- a segment from its beginning on

same_operation : (a b : Operation) → Some a ≡ Some b → a ≡ b
same_operation a b e = cc

-- a segment begins without cells
begins_empty : (state next : State) (line : Line) (class : Class) → NoCells state → operation_of (part line.text line.fields.operation) ≡ Some (Direct (directives.Begin class)) → IsStep state line (Ok next)
    → (s : StartedSegment) × (next.segment ≡ Some s) × (cells_of s ≡ 0)
unfolding IsDone
begins_empty state next line class none opens step =
    let done = done_of state next line step in
    let label = part line.text line.fields.label in
    let operand = part line.text line.fields.operand in
    let same : done.0 ≡ Direct (directives.Begin class) = same_operation done.0 (Direct (directives.Begin class)) (sym done.1 ∙ opens) in
    let begins = subst (λ (x : Operation). IsDone state line x (label_of state x label) operand (okay next)) same done.2 in
    let all = bind_ok (pair_or_earlier_fault (label_of state (Direct (directives.Begin class)) label) (load_name_of operand)) _ next (sym begins) in
    (made state.front all.0.0 all.0.1, sym (ap (λ (x : State). x.segment) (same_okay (state_after_start state line class all.0.0 all.0.1) next all.2)), none)
  where
    made : List Record → List ℕ → List ℕ → StartedSegment
    made front name load_name = record {
      start_line = line;
      class = class;
      header = Rattle.asm_meaning.specs.State.header_of state class name load_name;
      names = Rattle.orca_meaning.specs.Names.with_name name None Rattle.asm_meaning.specs.State.no_names;
      body = front;
    }

steps_parted : (state last : State) (before following : List Line) → AreSteps state (before ++ following) last → (middle : State) × AreSteps state before middle × AreSteps middle following last
steps_parted state last [] following steps = (state, refl, steps)
steps_parted state last (line ∷ before) following steps =
    let rest = steps_parted steps.0 last before following steps.2 in
    (rest.0, (steps.0, steps.1, rest.1), rest.2)

pub place_is_sum : PlaceIsSum
place_is_sum before lines opening class last steps opens go =
    let parted = steps_parted start last before (opening ∷ lines) steps in
    let none = lines_none start parted.0 before start_none parted.1 in
    let first = parted.2.0 in
    let empty = begins_empty parted.0 first opening class none opens parted.2.1 in
    let added = lines_within first last empty.0 lines empty.1 parted.2.2 go in
    (first, empty.0, added.sizes, added.t, empty.1, added.within, added.open', omega (arith, added.cells, empty.2))
