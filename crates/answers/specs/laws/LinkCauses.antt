-- No first fault of a link is Memory.
use Rattle.std.proofs.Common.{◌≡◌, ◌≢◌, inl, inr, ℕ, ◌+◌, Bool, true, false, cond, List, [], ◌∷◌, length, Some, None, Result, Ok, Err, refl, sym, subst}
use Rattle.std.specs.Prelude.{option_map, ◌&&◌, not, nat_le, ◌==◌}
use Rattle.std.specs.Int.{is_power_of_two}
use Rattle.omf_format.specs.declared.fault.FileCause.{FileCause}
use Rattle.omf_format.specs.declared.fault.FileCause.TheVariants as files
use Rattle.omf_format.specs.declared.value.Value.{Value}
use Rattle.omf_format.specs.declared.value.Value.TheVariants.{Fixed, At}
use Rattle.omf_format.specs.declared.value.ValueFault.{ValueFault}
use Rattle.omf_format.specs.declared.value.ValueFault.TheVariants as values
use Rattle.omf_format.specs.Header.{HeaderFields, form_of}
use Rattle.omf_format.specs.Record.{Record, Align, Equate, Formula, Reloc, InterSeg, ShortReloc, ShortInterSeg, Super, Entry}
use Rattle.omf_format.specs.File.{Segment}
use Rattle.object_meaning.specs.Sizes.{body_size}
use Rattle.load_meaning.specs.declared.load.LoadCause.{LoadCause}
use Rattle.load_meaning.specs.declared.load.LoadCause.TheVariants as loads
use Rattle.load_meaning.specs.Cells.{Cell}
use Rattle.load_meaning.specs.declared.table.Target.{Target}
use Rattle.link_meaning.specs.declared.fault.LinkCause.{LinkCause}
use Rattle.link_meaning.specs.declared.fault.LinkCause.TheVariants.{Unsupported, BadRecord, AlignFault, BadLength, Unresolved, Duplicate, DivideByZero, NotRelocatable, DynamicReference, OutOfSegment, TooManyEntries, DoesNotFit, Memory}
use Rattle.link_meaning.specs.declared.fault.LinkFault.{LinkFault}
use Rattle.link_meaning.specs.declared.search.SearchKind.{SearchKind}
use Rattle.link_meaning.specs.declared.search.SearchKind.TheVariants.{Data, One, Any}
use Rattle.link_meaning.specs.First.{first_some}
use Rattle.link_meaning.specs.Member.{LinkSetting, Member, setting_in}
use Rattle.link_meaning.specs.Search.{FoundDefinition}
use Rattle.link_meaning.specs.Fitting.{PatchPlace, place_fit, call_fit, fit_value, fit_cells, targets_after, value_or_cause}
use Rattle.link_meaning.specs.LinkValues.{EquateAnswer, value_in}
use Rattle.link_meaning.specs.LinkedCells.{Item, table_number, bank_of, LinkState, cells_before, made_by, made}
use Rattle.link_meaning.specs.Layout.{load_of, load_headers, offset_of}
use Rattle.link_meaning.specs.LinkFaults.{link_cause, type_fault, record_fault, segment_fault, segments_fault, HasFileFault, OfFile, OfSegment, OfDictionary, runtime_cause, LinkInput, InputPart, OfInput, OfRuntime, HasPartFault, use_cause, LayoutCheck, Orgs, Count, Lengths, Kinds, HasLayoutFault, Phase, Reading, Objects, Names, Layout, HasPhaseFault}
use Rattle.link_meaning.specs.EmitFaults.{EmitPhase, Cycles, Values, Size, HasEmitFault, IsFirstLinkFault, OfResolving, OfEmitting}
use Rattle.answers.specs.laws.Options.{same_some, mapped, either_some, first_among, OnlyFaults, no_fault, one_fault, fault_of_either, fault_after, fault_if_none}
use Rattle.answers.specs.laws.FirstCauses.{first_cause, first_runtime_cause}

abbrev IsOther : LinkCause → Type 0
IsOther cause = cause ≢ Memory

-- a fault is another one where it was reported as another one
reported_cause : (fault reported : LinkFault) → fault ≡ reported → IsOther reported.cause → IsOther fault.cause
reported_cause fault reported e other = subst (λ (f : LinkFault). IsOther f.cause) (sym e) other

-- ---- reading

file_cause : (cause : FileCause) → cause ≢ files.Memory → IsOther (link_cause cause)
file_cause files.Truncated other = λ e. cc
file_cause files.BadHeader other = λ e. cc
file_cause files.Unsupported other = λ e. cc
file_cause files.BadRecord other = λ e. cc
file_cause files.Memory other = absurd (other refl)

library_cause : (cause : LoadCause) → cause ≢ loads.Memory → IsOther (runtime_cause cause)
library_cause loads.Memory other = absurd (other refl)
library_cause _ other = λ e. cc

type_cause : (first : Bool) (f : HeaderFields) (cause : LinkCause) → type_fault first f ≡ Some cause → IsOther cause
type_cause first f cause e =
    let checks : List (Bool × LinkCause) =
    (form_of f.kind == 0x02, Unsupported) ∷ (form_of f.kind == 0x04, Unsupported) ∷ (form_of f.kind == 0x08 && not first, BadRecord) ∷ [] in
    first_among IsOther checks cause (λ e. cc, (λ e. cc, (λ e. cc, tt))) e

is_bad_record : (cause : LinkCause) → Some BadRecord ≡ Some cause → IsOther cause
is_bad_record cause e = subst IsOther (same_some BadRecord cause e) (λ e. cc)

record_cause : (align : ℕ) (r : Record) (cause : LinkCause) → record_fault align r ≡ Some cause → IsOther cause
record_cause align (Align n) cause e = cases (is_power_of_two n && nat_le n align) e
  where
    cases : (b : Bool) → cond b None (Some AlignFault) ≡ Some cause → IsOther cause
    cases true e = absurd cc
    cases false e = subst IsOther (same_some AlignFault cause e) (λ e. cc)
record_cause align (Reloc count shift location offset) cause e = is_bad_record cause e
record_cause align (InterSeg count shift location file segment offset) cause e = is_bad_record cause e
record_cause align (ShortReloc count shift location offset) cause e = is_bad_record cause e
record_cause align (ShortInterSeg count shift location segment offset) cause e = is_bad_record cause e
record_cause align (Super form bytes) cause e = is_bad_record cause e
record_cause align (Entry segment offset name) cause e = is_bad_record cause e
record_cause align _ cause e = absurd cc

records_cause : (align : ℕ) (founds : List (ℕ × Record)) (found : LinkCause × ℕ)
    → first_some (λ (f : ℕ × Record). option_map (λ (cause : LinkCause). (cause, f.0)) (record_fault align f.1)) founds ≡ Some found → IsOther found.0
records_cause align [] found e = absurd cc
records_cause align (f ∷ founds) found e = elim (either_some _ (first_some _ founds) found e) [
  | inl here ↦ let of = mapped (λ (cause : LinkCause). (cause, f.0)) (record_fault align f.1) found here in
      subst (λ (p : LinkCause × ℕ). IsOther p.0) of.2 (record_cause align f.1 of.0 of.1)
  | inr later ↦ records_cause align founds found later
]

segment_cause : (first : Bool) (s : Segment) (found : LinkCause × ℕ) → segment_fault first s ≡ Some found → IsOther found.0
unfolding segment_fault
segment_cause first s found e = elim (either_some (option_map (λ (cause : LinkCause). (cause, s.start)) (type_fault first s.fields)) _ found e) [
  | inl type ↦ let of = mapped (λ (cause : LinkCause). (cause, s.start)) (type_fault first s.fields) found type in
      subst (λ (p : LinkCause × ℕ). IsOther p.0) of.2 (type_cause first s.fields of.0 of.1)
  | inr more ↦ elim (either_some (first_some _ s.records) (cond (s.fields.length == body_size s + s.fields.res_spc) None (Some (BadLength, s.start))) found more) [
    | inl records ↦ records_cause _ s.records found records
    | inr length ↦ by_length (s.fields.length == body_size s + s.fields.res_spc) length
  ]
]
  where
    by_length : (b : Bool) → cond b None (Some (BadLength, s.start)) ≡ Some found → IsOther found.0
    by_length true e = absurd cc
    by_length false e = subst (λ (p : LinkCause × ℕ). IsOther p.0) (same_some (BadLength, s.start) found e) (λ e. cc)

segments_cause : (number : ℕ) (segments : List Segment) (found : ℕ × (LinkCause × ℕ)) → segments_fault number segments ≡ Some found → IsOther found.1.0
segments_cause number [] found e = absurd cc
segments_cause number (s ∷ segments) found e = elim (either_some _ (segments_fault (number + 1) segments) found e) [
  | inl here ↦ let of = mapped (λ (f : LinkCause × ℕ). (number, f)) (segment_fault (number == 1) s) found here in
      subst (λ (p : ℕ × (LinkCause × ℕ)). IsOther p.1.0) of.2 (segment_cause (number == 1) s of.0 of.1)
  | inr later ↦ segments_cause (number + 1) segments found later
]

input_cause : (file : ℕ) (bytes : List ℕ) (fault : LinkFault) → HasFileFault file bytes fault → IsOther fault.cause
input_cause file bytes fault (OfFile found first e) = reported_cause fault _ e (file_cause found.cause (first_cause bytes found first))
input_cause file bytes fault (OfSegment segments found is has e) = reported_cause fault _ e (segments_cause 1 segments found has)
input_cause file bytes fault (OfDictionary segments at is none has e) = reported_cause fault _ e (λ e. cc)

part_cause : (before : List InputPart) (part : InputPart) (fault : LinkFault) → HasPartFault before part fault → IsOther fault.cause
part_cause before (OfInput bytes) fault has = input_cause (length before + 1) bytes fault has
part_cause before (OfRuntime bytes) fault has = reported_cause fault _ has.reported (library_cause has.found.cause (first_runtime_cause bytes has.found has.first))

-- ---- names and layout

name_cause : (want : SearchKind) (found : List FoundDefinition) (cause : LinkCause) → use_cause want found ≡ Some cause → IsOther cause
name_cause Data [] cause e = subst IsOther (same_some Unresolved cause e) (λ e. cc)
name_cause One [] cause e = subst IsOther (same_some Unresolved cause e) (λ e. cc)
name_cause Any [] cause e = absurd cc
name_cause Data (f ∷ []) cause e = absurd cc
name_cause One (f ∷ []) cause e = absurd cc
name_cause Any (f ∷ []) cause e = absurd cc
name_cause Data (f ∷ g ∷ more) cause e = subst IsOther (same_some Duplicate cause e) (λ e. cc)
name_cause One (f ∷ g ∷ more) cause e = subst IsOther (same_some Duplicate cause e) (λ e. cc)
name_cause Any (f ∷ g ∷ more) cause e = subst IsOther (same_some Duplicate cause e) (λ e. cc)

layout_cause : (list : List Member) (before : List LayoutCheck) (check : LayoutCheck) (fault : LinkFault) → HasLayoutFault list before check fault → IsOther fault.cause
layout_cause list before Orgs fault has = reported_cause fault _ has.here.reported (λ e. cc)
layout_cause list before Count fault has = reported_cause fault _ has.reported (λ e. cc)
layout_cause list before Lengths fault has = reported_cause fault _ has.here.reported (λ e. cc)
layout_cause list before Kinds fault has = reported_cause fault _ has.here.reported (λ e. cc)

phase_cause : (given : LinkInput) (before : List Phase) (phase : Phase) (fault : LinkFault) → HasPhaseFault given before phase fault → IsOther fault.cause
phase_cause given before Reading fault has = part_cause has.before has.item fault has.here
phase_cause given before Objects fault has = reported_cause fault _ has.5 (λ e. cc)
phase_cause given before Names fault has = name_cause _ _ fault.cause has.2.here.cause
phase_cause given before Layout fault has = layout_cause has.0 has.2.before has.2.item fault has.2.here

-- ---- values

value_cause : (answer : Result Value ValueFault) → OnlyFaults IsOther (value_or_cause answer)
value_cause (Ok v) = no_fault IsOther v
value_cause (Err values.DivideByZero) = one_fault IsOther DivideByZero (λ e. cc)
value_cause (Err values.NotRelocatable) = one_fault IsOther NotRelocatable (λ e. cc)
value_cause (Err (values.Unknown at)) = one_fault IsOther NotRelocatable (λ e. cc)

call_cause : (headers : List HeaderFields) (setting : LinkSetting) (targets : List Target) (call : Bool) (target : Target)
    → OnlyFaults IsOther (call_fit headers setting targets call target)
call_cause headers setting targets call target =
    fault_of_either IsOther _ (Err DynamicReference) _ (one_fault IsOther DynamicReference (λ e. cc))
    (fault_of_either IsOther _ (Err OutOfSegment) _ (one_fault IsOther OutOfSegment (λ e. cc))
    (fault_of_either IsOther _ (Err TooManyEntries) _ (one_fault IsOther TooManyEntries (λ e. cc)) (no_fault IsOther _)))

fit_cause : (headers : List HeaderFields) (f : PatchPlace) (targets : List Target) (before : List Cell) (code count n : ℕ) (v : Value)
    → OnlyFaults IsOther (fit_value headers f targets before code count n v)
fit_cause headers f targets before code count n (Fixed k) = fault_if_none IsOther _ DoesNotFit (λ e. cc)
fit_cause headers f targets before code count n (At file segment offset shift) =
    fault_of_either IsOther _ _ _ (call_cause headers f.setting targets _ _) (fault_if_none IsOther (place_fit f code count n segment offset shift) DoesNotFit (λ e. cc))

record_made : (list : List Member) (table : List EquateAnswer) (state : LinkState) (i : Item) (r : Record) → OnlyFaults IsOther (made_by list table state i r)
record_made list table state i (Equate global name size form private expr) = fault_after IsOther _ _ (value_cause _) (λ v. no_fault IsOther _)
record_made list table state i (Formula code count n expr) =
    let value : Result Value ValueFault = value_in list table i.place i.member i.here.location expr in
    let own : ℕ = load_of list i.member in
    let here : PatchPlace = record {
      own = own;
      bank_size = bank_of (load_headers list) own;
      place = offset_of list i.place i.member + i.here.location;
      setting = setting_in list;
    } in
    fault_after IsOther (value_or_cause value) _ (value_cause value) (λ v.
    fault_after IsOther (fit_value (load_headers list) here state.targets (cells_before state i) code count n v) _
    (fit_cause (load_headers list) here state.targets (cells_before state i) code count n v) (λ fit.
    let targets : List Target = targets_after state.targets fit in
    no_fault IsOther (fit_cells (table_number list) count targets fit, targets)))
record_made list table state i _ = no_fault IsOther _

item_cause : (list : List Member) (table : List EquateAnswer) (state : LinkState) (i : Item) → OnlyFaults IsOther (made list table state i)
unfolding made
item_cause list table state i = record_made list table state i i.here.content

emit_cause : (list : List Member) (before : List EmitPhase) (phase : EmitPhase) (fault : LinkFault) → HasEmitFault list before phase fault → IsOther fault.cause
emit_cause list before Cycles fault has = reported_cause fault _ has.here.reported (λ e. cc)
emit_cause list before Values fault has = item_cause list has.0 _ has.2.item fault.cause has.2.here.cause
emit_cause list before Size fault has = reported_cause fault _ has.2.reported (λ e. cc)

-- ---- all phases

pub first_link_cause : (given : LinkInput) (fault : LinkFault) → IsFirstLinkFault given fault → fault.cause ≢ Memory
first_link_cause given fault (OfResolving first) = phase_cause given first.before first.item fault first.here
first_link_cause given fault (OfEmitting list resolved first) = emit_cause list first.before first.item fault first.here
