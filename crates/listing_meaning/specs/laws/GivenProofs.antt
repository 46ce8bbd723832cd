-- A line adds its records to those before.
use Rattle.std.proofs.Common.{◌≡◌, ℕ, Bool, true, false, List, [], ◌∷◌, ◌++◌, length, drop, Option, Some, None, Ok, Err, refl, sym, ap, subst, ◌∙◌, append_assoc, append-nil}
use Rattle.std.specs.Option.{option_map}
use Rattle.std.proofs.Math.Seq.{drop-append_seam}
use Rattle.std.proofs.lemmas.Grind.{flat_map-append}
use Rattle.omf_format.specs.Field.{◌>>=◌}
use Rattle.omf_format.specs.laws.FieldLaws.{bind_ok}
use Rattle.omf_format.specs.Expression.{Tree}
use Rattle.omf_format.specs.Record.{Record, End, Align, Org, Space, Label}
use Rattle.orca_meaning.specs.Line.{Line, part}
use Rattle.asm_meaning.specs.declared.directives.Switch.{Switch}
use Rattle.asm_meaning.specs.declared.directives.Switch.TheVariants.{LongA, LongI, Msb}
use Rattle.asm_meaning.specs.declared.directives.Directive.TheVariants as directives
use Rattle.asm_meaning.specs.declared.directives.Operation.{Operation}
use Rattle.asm_meaning.specs.declared.directives.Operation.TheVariants.{Instruct, Direct}
use Rattle.asm_meaning.specs.declared.faults.AsmCause.TheVariants.{SegmentTooLong}
use Rattle.asm_meaning.specs.Answer.{Answer, pair_or_earlier_fault}
use Rattle.asm_meaning.specs.Constant.{amount}
use Rattle.asm_meaning.specs.Formulas.{formula_of}
use Rattle.asm_meaning.specs.Operations.{operation_of}
use Rattle.asm_meaning.specs.Pieces.{length_at}
use Rattle.asm_meaning.specs.State.{StartedSegment, FinishedSegment, State, cells_of, state_after_start, state_after_end, local_of, with_records, with_local_record, in_segment, within_length, with_switch_set}
use Rattle.asm_meaning.specs.laws.Steps.{is_too_long, equating_global, IsPlaced, IsKnown}
use Rattle.asm_meaning.specs.Statement.{is_misplaced, begins_segment, label_of, load_name_of, switch_of, constants_of, number_in, alignment_in, distance_in, listed_kind, state_after_align, state_after_org, with_kind, with_equate, equating, marking, IsDone, IsStep}
use Rattle.asm_meaning.specs.Object.{AreSteps}
use Rattle.listing_meaning.specs.Given.{open_records, records_of_ended, records_in, given_records}
use Rattle.listing_meaning.specs.ListingLaws.{StepsAddRecords}

abbrev okay : {A : Type 0} → A → Answer A
okay a = Ok a

abbrev too_long : Answer State
too_long = Err SegmentTooLong

same_okay : {A : Type 0} (x y : A) → okay x ≡ okay y → x ≡ y
same_okay x y e = cc

within_same : (state next : State) → within_length state ≡ Ok next → state ≡ next
within_same state next e = by_long (is_too_long state.segment) e
  where
    by_long : (b : Bool) → Rattle.std.proofs.Common.cond b too_long (okay state) ≡ Ok next → state ≡ next
    by_long true e = absurd cc
    by_long false e = same_okay state next e

-- ---- more records

-- the records of one state, and more behind them, are those of another
pub record Grows (state next : State) : Type 0 where
  pub more : List Record
  pub is : records_in next ≡ records_in state ++ more

-- the records of a segment, and more behind them
record GrowsIn (s t : StartedSegment) : Type 0 where
  more : List Record
  is : t.body ≡ s.body ++ more

stays : (state next : State) → records_in next ≡ records_in state → Grows state next
stays state next same = record { more = []; is = same ∙ sym (append-nil (records_in state)) }

as_next : (state next other : State) → other ≡ next → Grows state other → Grows state next
as_next state next other same g = subst (Grows state) same g

pub given_are : (state next : State) → Grows state next → records_in next ≡ records_in state ++ given_records state next
given_are state next g =
    let dropped : given_records state next ≡ g.more = ap (drop (length (records_in state))) g.is ∙ drop-append_seam (records_in state) g.more in
    g.is ∙ ap (λ (r : List Record). records_in state ++ r) (sym dropped)

pub grows_on : (state middle last : State) → Grows state middle → Grows middle last → Grows state last
grows_on state middle last g h = record {
  more = g.more ++ h.more;
  is = h.is ∙ ap (λ (r : List Record). r ++ h.more) g.is ∙ append_assoc (records_in state) g.more h.more;
}

changed : (change : StartedSegment → StartedSegment) (state : State) → ((s : StartedSegment) → GrowsIn s (change s)) → Grows state (in_segment change state)
changed change state each = by_open state.segment
  where
    base : List Record
    base = records_of_ended state.ended

    -- the records with this segment
    with_open : Option StartedSegment → List Record
    with_open o = base ++ open_records o

    found : (o : Option StartedSegment) → (more : List Record) × (base ++ open_records (option_map change o) ≡ (base ++ open_records o) ++ more)
    found None = ([], sym (append-nil (base ++ [])))
    found (Some s) = ((each s).more, ap (λ (r : List Record). base ++ r) (each s).is ∙ sym (append_assoc base s.body (each s).more))

    by_open : (o : Option StartedSegment) → Grows state (in_segment change state)
    by_open o = let f = found state.segment in record { more = f.0; is = f.1 }

-- ---- what each operation leaves

made : {A : Type 0} (state next : State) (label : Answer (List ℕ)) (given : Answer A) (make : List ℕ → A → State) → ((name : List ℕ) (a : A) → Grows state (make name a))
    → (pair_or_earlier_fault label given >>= λ (name, a). okay (make name a)) ≡ Ok next → Grows state next
made state next label given make each e =
    let all = bind_ok (pair_or_earlier_fault label given) _ next e in
    as_next state next (make all.0.0 all.0.1) (same_okay (make all.0.0 all.0.1) next all.2) (each all.0.0 all.0.1)

local_record : (name : List ℕ) (form : ℕ) (contents : List Record) (s : StartedSegment) → GrowsIn s (with_local_record name form contents s)
local_record name form contents s = record { more = local_of name form (length_at (cells_of s) contents) ++ contents; is = refl }

put : (name : List ℕ) (form : ℕ) (contents : List Record) (state : State) → Grows state (in_segment (with_local_record name form contents) state)
put name form contents state = changed (with_local_record name form contents) state (λ s. local_record name form contents s)

begun : (state : State) (line : Line) (class : Rattle.asm_meaning.specs.declared.directives.Class.Class) (name load_name : List ℕ) → state.segment ≡ None → Grows state (state_after_start state line class name load_name)
begun state line class name load_name none = record {
  more = state.front;
  is = ap (λ (r : List Record). r ++ state.front) (sym (ap (λ (o : Option StartedSegment). records_of_ended state.ended ++ open_records o) none ∙ append-nil (records_of_ended state.ended)));
}

ended : (state : State) → records_in (state_after_end state) ≡ records_in state
ended state = append-nil (records_of_ended (state_after_end state).ended) ∙ by_open state.segment
  where
    -- the open segment with its length
    closed : Option StartedSegment → List FinishedSegment
    closed o = elim o [ None ↦ [] | Some s ↦ record { header = record s.header { length = cells_of s }; body = s.body } ∷ [] ]

    by_open : (o : Option StartedSegment) → records_of_ended (state.ended ++ closed o) ≡ records_of_ended state.ended ++ open_records o
    by_open None = flat_map-append (λ (s : FinishedSegment). s.body) state.ended []
    by_open (Some s) =
        flat_map-append (λ (t : FinishedSegment). t.body) state.ended (record { header = record s.header { length = cells_of s }; body = s.body } ∷ [])
        ∙ ap (λ (r : List Record). records_of_ended state.ended ++ r) (append-nil s.body)

aligned : (state : State) (o : Option StartedSegment) (name : List ℕ) (n : ℕ) → Grows state (state_after_align state o name n)
aligned state None name n = stays state (state_after_align state None name n) refl
aligned state (Some s) name n = put name 0x4E (Align n ∷ []) state

moved : (state : State) (o : Option StartedSegment) (name : List ℕ) (n : ℕ) → Grows state (state_after_org state o name n)
moved state None name n = stays state (state_after_org state None name n) refl
moved state (Some s) name n = put name 0x4E (Org n ∷ []) state

turned : (switch : Switch) (on : Bool) (state next : State) → Grows state next → Grows state (with_switch_set switch on next)
turned LongA on state next g = record { more = g.more; is = g.is }
turned LongI on state next g = record { more = g.more; is = g.is }
turned Msb on state next g = record { more = g.more; is = g.is }

equated : (state next : State) (global : Bool) (label : Answer (List ℕ)) (found : Option Tree) → equating state global label found ≡ Ok next → Grows state next
equated state next global label found e =
    made state next label (formula_of found >>= amount (constants_of state)) (λ name a. in_segment (with_equate global name a) state)
    (λ name a. changed (with_equate global name a) state (λ s. record { more = _; is = refl })) e

globally : (state next : State) (o : Option StartedSegment) (label : Answer (List ℕ)) (found : Option Tree) → equating_global state o label found ≡ Ok next → Grows state next
globally state next None label found e = made state next label (number_in state found) _ (λ name n. stays state _ refl) e
globally state next (Some s) label found e = equated state next true label found e

marked : (state next : State) (form : ℕ) (label : Answer (List ℕ)) (contents : Answer (List Record)) → marking state form label contents ≡ Ok next → Grows state next
marked state next form label contents e = made state next label contents (λ name found. in_segment (with_local_record name form found) state) (λ name found. put name form found state) e

done_grows : (state next : State) (line : Line) (operation : Operation) (label : Answer (List ℕ)) (text : List ℕ) → (begins_segment operation ≡ true → state.segment ≡ None) → IsDone state line operation label text (Ok next) → Grows state next
unfolding IsDone
done_grows state next line (Instruct m) label text outside done = marked state next 0x4D label _ (sym done.2)
done_grows state next line (Direct (directives.Begin class)) label text outside done =
    made state next label (load_name_of text) (λ name load_name. state_after_start state line class name load_name) (λ name load_name. begun state line class name load_name (outside refl)) (sym done)
done_grows state next line (Direct directives.End) label text outside done =
    let left = bind_ok (marking state 0x4E label (okay (End ∷ []))) (λ x. okay (state_after_end x)) next (sym done) in
    let g = marked state left.0 0x4E label (okay (End ∷ [])) left.1 in
    as_next state next (state_after_end left.0) (same_okay (state_after_end left.0) next left.2) (record { more = g.more; is = ended left.0 ∙ g.is })
done_grows state next line (Direct directives.Entry) label text outside done =
    let all = bind_ok label (λ name. okay (in_segment (with_records name None (Label true name 0 0x4E 0 ∷ []) []) state)) next (sym done) in
    as_next state next (in_segment (with_records all.0 None (Label true all.0 0 0x4E 0 ∷ []) []) state) (same_okay _ next all.2)
    (changed (with_records all.0 None (Label true all.0 0 0x4E 0 ∷ []) []) state (λ s. record { more = Label true all.0 0 0x4E 0 ∷ []; is = refl }))
done_grows state next line (Direct directives.Using) label text outside done = marked state next 0x4E label _ (sym done)
done_grows state next line (Direct directives.Equ) label text outside done = equated state next false label done.0 (sym done.2)
done_grows state next line (Direct directives.Gequ) label text outside done = globally state next state.segment label done.0 (sym done.2)
done_grows state next line (Direct directives.Constants) label text outside done = marked state next 0x4E label _ (sym done.2)
done_grows state next line (Direct directives.Space) label text outside done =
    made state next label (number_in state done.0) (λ name n. in_segment (with_local_record name 0x4E (Space n ∷ [])) state) (λ name n. put name 0x4E (Space n ∷ []) state) (sym done.2)
done_grows state next line (Direct directives.Align) label text outside done =
    made state next label (number_in state done.0 >>= alignment_in state) (λ name n. state_after_align state state.segment name n) (λ name n. aligned state state.segment name n) (sym done.2)
done_grows state next line (Direct directives.Org) label text outside done =
    made state next label (number_in state done.0 >>= distance_in state.segment) (λ name n. state_after_org state state.segment name n) (λ name n. moved state state.segment name n) (sym done.2)
done_grows state next line (Direct directives.Kind) label text outside done =
    made state next label (number_in state done.0 >>= listed_kind) (λ name n. in_segment (λ x. with_kind n (with_local_record name 0x4E [] x)) state)
    (λ name n. changed (λ x. with_kind n (with_local_record name 0x4E [] x)) state (λ s. record { more = local_of name 0x4E (length_at (cells_of s) []) ++ []; is = refl })) (sym done.2)
done_grows state next line (Direct (directives.Turn switch)) label text outside done =
    made state next label (switch_of text) (λ name on. with_switch_set switch on (in_segment (with_local_record name 0x4E []) state))
    (λ name on. turned switch on state (in_segment (with_local_record name 0x4E []) state) (put name 0x4E [] state)) (sym done)
done_grows state next line (Direct directives.Nothing) label text outside done = marked state next 0x4E label (okay []) (sym done)
done_grows state next line (Direct directives.Ignored) label text outside done = marked state next 0x4E label (okay []) (sym done)

-- a line without a fault
pub step_grows : (state next : State) (line : Line) → IsStep state line (Ok next) → Grows state next
step_grows state next line step = by_operation (operation_of (part line.text line.fields.operation)) step
  where
    label : List ℕ
    label = part line.text line.fields.label

    operand : List ℕ
    operand = part line.text line.fields.operand

    -- a statement that begins a segment and isn't misplaced is outside of segments
    stands_outside : (o : Option StartedSegment) (operation : Operation) → is_misplaced o operation label operand ≡ false → begins_segment operation ≡ true → o ≡ None
    stands_outside None operation fits begins = refl
    stands_outside (Some s) operation fits begins = let clash : true ≡ false = sym begins ∙ fits in absurd cc

    by_place : (operation : Operation) (misplaced : Bool) → is_misplaced state.segment operation label operand ≡ misplaced → IsPlaced state line operation label operand misplaced (Ok next) → Grows state next
    by_place operation true misplaced is = absurd cc
    by_place operation false misplaced is =
        let left = bind_ok is.0 within_length next (sym is.2) in
        let last = within_same left.0 next left.2 in
        let done : IsDone state line operation (label_of state operation label) operand (Ok next) =
        subst (λ (x : State). IsDone state line operation (label_of state operation label) operand (okay x)) last (subst (IsDone state line operation (label_of state operation label) operand) left.1 is.1) in
        done_grows state next line operation (label_of state operation label) operand (stands_outside state.segment operation misplaced) done

    by_operation : (o : Option Operation) → IsKnown state line o label operand (Ok next) → Grows state next
    by_operation None is = absurd cc
    by_operation (Some operation) is = by_place operation (is_misplaced state.segment operation label operand) refl is

pub steps_grow : (state last : State) (lines : List Line) → AreSteps state lines last → Grows state last
steps_grow state last [] same = stays state last (ap records_in (sym same))
steps_grow state last (line ∷ lines) steps = grows_on state steps.0 last (step_grows state steps.0 line steps.1) (steps_grow steps.0 last lines steps.2)

pub steps_add_records : StepsAddRecords
steps_add_records state next line step = given_are state next (step_grows state next line step)
