-- Steps of definitions, as words of laws and of contracts between functions.
use Rattle.std.specs.Prelude.{Bool, false, not, None, Option, Some, nat_le, nat_lt, ℕ, ◌+◌, ◌-◌, ◌/◌, ◌%◌, ◌^◌, ◌&&◌, if◌then◌else◌, ◌==◌, List, length, ◌||◌, position, unwrap_or, true, Result, ok_or, option_map, map, ◌++◌, Err, Ok, ◌∷◌, [], min, flat_map, ℤ, is_some}
use Rattle.object_meaning.specs.Defines.{ForAll, ForSegment, ForUnit, Scope}
use Rattle.link_meaning.specs.Fitting.{Fit, Number, length_of, length_outside, is_dynamic_load, PatchPlace, ends_in_jsl}
use Rattle.load_meaning.specs.Cells.{Byte, Cell, Part, cells, byte_under}
use Rattle.omf_format.specs.Header.{HeaderFields, is_dynamic, is_skipped}
use Rattle.link_meaning.specs.Member.{LinkSetting, Member, Offer, setting_in}
use Rattle.load_meaning.specs.declared.table.Target.{Target}
use Rattle.load_meaning.specs.Table.{is_same, most_entries}
use Rattle.std.specs.List.{list_any}
use Rattle.omf_format.specs.declared.codes.TheConstants.{EXPR, RELEXPR, LEXPR}
use Rattle.link_meaning.specs.declared.form.LinkForm.TheVariants.{Runtime as LibraryForm, Program}
use Rattle.link_meaning.specs.declared.form.LinkForm.{LinkForm}
use Rattle.link_meaning.specs.declared.fault.LinkCause.TheVariants.{DoesNotFit, BadLength, DivideByZero, NotRelocatable}
use Rattle.link_meaning.specs.declared.fault.LinkCause.{LinkCause}
use Rattle.omf_format.specs.declared.value.ValueFault.TheVariants as faults
use Rattle.omf_format.specs.Record.{Record}
use Rattle.link_meaning.specs.First.{first_some}
use Rattle.link_meaning.specs.LinkFaults.{record_fault, InputPart, LinkInput, OfInput, OfRuntime, Layout, Names, Objects, Phase, Reading}
use Rattle.omf_format.specs.File.{Segment}
use Rattle.object_meaning.specs.Sizes.{body_size}
use Rattle.omf_format.specs.declared.value.Value.{Value}
use Rattle.omf_format.specs.declared.value.ValueFault.{ValueFault}
use Rattle.link_meaning.specs.Search.{FoundDefinition, outer_steps, used_data, is_step, step_of, entries, first_step_found, with_this_name}
use Rattle.link_meaning.specs.LinkValues.{EquateAnswer, found_value, member_environment, value_or_equate_fault}
use Rattle.omf_format.specs.declared.value.ValueFault.TheVariants.{NotRelocatable}
use Rattle.omf_format.specs.Expression.{Tree, terms_in}
use Rattle.omf_format.specs.Value.{value, is_unshifted}
use Rattle.link_meaning.specs.LinkWritten.{export_at, exports, patches_of_cells}
use Rattle.link_meaning.specs.Layout.{load_headers, load_of, offset_of}
use Rattle.link_meaning.specs.declared.search.SearchStep.{SearchStep}
use Rattle.link_meaning.specs.declared.search.SearchStep.TheVariants.{Within}
use Rattle.link_meaning.specs.declared.search.SearchKind.TheVariants.{Any, Data, One}
use Rattle.link_meaning.specs.Uses.{Use, used_by_term}
use Rattle.std.specs.Int.{next_multiple_of}
use Rattle.link_meaning.specs.EmitFaults.{Cycles, EmitPhase, Size, Values}
use Rattle.link_meaning.specs.LinkedCells.{Item, bank_of}
use Rattle.load_meaning.specs.WrittenFile.{Image}
use Rattle.object_meaning.specs.Terms.{asked_by, tree_in}

abbrev pub has_scope : Bool → Scope → Bool
has_scope private ForSegment = false
has_scope private ForUnit = private
has_scope private ForAll = not private

-- a distance from one offset to another, in two's complement, where it fits signed in a given number of bytes
abbrev pub distance_fit : ℕ → ℕ → ℕ → Option Fit
distance_fit count to from =
    if nat_le from (to + 256 ^ count / 2) && nat_lt to (from + 256 ^ count / 2)
    then Some (Number ((to + 256 ^ count - from) % 256 ^ count))
    else None

abbrev pub is_jsl_byte : Cell → Bool
is_jsl_byte (Byte b) = b == 0x22
is_jsl_byte (Part file segment offset shift index) = false

-- LENGTH of the segment of a target, in the file itself or in a run-time library file
abbrev pub length_there : List HeaderFields → LinkSetting → Target → ℕ
length_there headers setting t = if t.file == 1 then length_of headers t.segment else length_outside setting t.file t.segment

-- the target has an entry, or there is room for one more
abbrev pub has_room_for : List Target → Target → Bool
has_room_for targets target = list_any (is_same target) targets || nat_lt (length targets) most_entries

-- a place is in a run-time library file, or in another dynamic load segment
abbrev pub is_far : List HeaderFields → ℕ → ℕ → ℕ → Bool
is_far headers own file segment = not (file == 1) || (not (segment == own) && is_dynamic_load headers segment)

-- the place to call
abbrev pub target_of : ℕ → ℕ → ℕ → Target
target_of file segment offset = record { file = file; segment = segment; offset = offset }

-- EXPR is $EB, ZEXPR $EC, BEXPR $ED, RELEXPR $EE, LEXPR $F3
abbrev pub number_fit : ℕ → ℕ → ℕ → Option Fit
number_fit code count n =
    if code == EXPR then Some (Number n)
    else if code == RELEXPR then None
    else if nat_lt n (256 ^ count) then Some (Number n)
    else None

-- the place of a target's entry among all, from 0
abbrev pub entry_of : List Target → Target → ℕ
entry_of targets target = unwrap_or (position (is_same target) targets) (length targets)

-- only a program calls through a table
abbrev pub may_call : LinkForm → Bool
may_call Program = true
may_call LibraryForm = false

abbrev pub or_does_not_fit : Option Fit → Result Fit LinkCause
or_does_not_fit fit = ok_or fit DoesNotFit

abbrev pub with_place : ℕ → LinkCause → LinkCause × ℕ
with_place at cause = (cause, at)

-- the first record's fault, with its place
abbrev pub records_fault : ℕ → List (ℕ × Record) → Option (LinkCause × ℕ)
records_fault align founds = first_some (λ found. option_map (with_place found.0) (record_fault align found.1)) founds

-- LENGTH counts the cells of the records and RESSPC
abbrev pub length_fault : Segment → Option (LinkCause × ℕ)
length_fault s = if s.fields.length == body_size s + s.fields.res_spc then None else Some (BadLength, s.start)

-- first the inputs, and then the run-time library files
abbrev pub parts_of : LinkInput → List InputPart
parts_of given = map OfInput given.inputs ++ map (λ file. OfRuntime file.1) given.runtimes

abbrev pub is_too_long : HeaderFields → Bool
is_too_long f = nat_lt 0xFFFFFF f.length || (not (f.bank_size == 0) && nat_lt f.bank_size f.length)

-- a run-time library file has only dynamic load segments, and none is skipped
abbrev pub may_not_stand : LinkForm → HeaderFields → Bool
may_not_stand form f = elim form [ Program ↦ false | LibraryForm ↦ not (is_dynamic f.kind && not (is_skipped f.kind)) ]

abbrev pub if_ok : Result Value ValueFault → Option Value
if_ok (Ok v) = Some v
if_ok (Err fault) = None

-- the length, type and count of a name that found this
abbrev pub attribute_value : ℕ → List FoundDefinition → Option ℕ
attribute_value code [] = if code == 0x86 then Some 0 else None
attribute_value code (f ∷ found) =
    if code == 0x84 then Some f.definition.size else if code == 0x85 then Some f.definition.form else Some 1

-- the fault of the equate that a name found
abbrev pub fault_found : List Member → List EquateAnswer → ValueFault → List FoundDefinition → ValueFault
fault_found list table fault [] = fault
fault_found list table fault (f ∷ found) = elim (found_value list table f) [ Ok v ↦ fault | Err of ↦ of ]

-- the value of an expression's tree in that member
abbrev pub tree_value : List Member → List EquateAnswer → ℕ → Member → ℕ → Option Tree → Result Value ValueFault
tree_value list table place m location None = Err NotRelocatable
tree_value list table place m location (Some tree) =
    value_or_equate_fault list table place m tree (value (member_environment list table place m location) m.segment.fields.lab_len 0 tree)

-- only what all see is exported
abbrev pub export_of : List Member → List EquateAnswer → FoundDefinition → List Record
export_of list table f = elim f.definition.scope [
  | ForSegment ↦ []
  | ForUnit ↦ []
  | ForAll ↦ export_at (load_headers list) f.definition.name (found_value list table f)
]

-- those of a load segment: of a run-time library file the first one has them all
abbrev pub exports_for : LinkForm → ℕ → List Record → List Record
exports_for form number all = elim form [ Program ↦ [] | LibraryForm ↦ if number == 1 then all else [] ]

-- a private row of the member's own library, with the member's file number
abbrev pub is_of_member : Member → Offer → Bool
is_of_member m o = o.private && m.file == o.member.file && m.from == o.member.from

-- the row's segment, where the use finds nothing
abbrev pub unless_found : List FoundDefinition → Option Member → Option Member
unless_found found row = elim found [ [] ↦ row | f ∷ more ↦ None ]

abbrev pub steps_of : List Member → ℕ → Member → List SearchStep
steps_of list place m = Within place ∷ (map Within (used_data list m) ++ outer_steps m)

abbrev pub is_seen_by_step : SearchStep → FoundDefinition → Bool
is_seen_by_step s f = is_step s (step_of f)

-- the names of USING
abbrev pub data_name : Use → List (List ℕ)
data_name u = elim u.want [ Data ↦ u.name ∷ [] | One ↦ [] | Any ↦ [] ]

-- the number that is it
abbrev pub aligned_from : ℕ → ℕ → ℕ
aligned_from align end = next_multiple_of end align

abbrev pub has_expr : Option (List ℕ) → Bool
has_expr text = is_some text

abbrev pub emit_phases : List EmitPhase
emit_phases = Cycles ∷ Values ∷ Size ∷ []

-- the lesser of two bank sizes, where 0 is no bound
abbrev pub lesser_bank : ℕ → ℕ → ℕ
lesser_bank a b = if a == 0 then b else (if b == 0 then a else min a b)

abbrev pub phases : List Phase
phases = Reading ∷ Objects ∷ Names ∷ Layout ∷ []

-- the value's fault as one of the linker; the names are known here, so there is no `Unknown`
abbrev pub value_cause : ValueFault → LinkCause
value_cause faults.DivideByZero = DivideByZero
value_cause faults.NotRelocatable = NotRelocatable
value_cause (faults.Unknown at) = NotRelocatable

abbrev pub frame_of : List Member → Item → PatchPlace
frame_of list i =
    let own = load_of list i.member in
    record { own = own; bank_size = bank_of (load_headers list) own; place = offset_of list i.place i.member + i.here.location; setting = setting_in list }

-- what the members define by a name that is used in the member at this place
abbrev pub finds_inside : List Member → ℕ → Member → List ℕ → List FoundDefinition
finds_inside list place m name =
    first_step_found (Within place ∷ (map Within (used_data list m) ++ outer_steps m)) (with_this_name name (entries list))

abbrev pub used_in_text : ℕ → ℕ → List ℕ → List Use
used_in_text lab_len at text = flat_map (λ placed. used_by_term at placed.1) (terms_in lab_len 0 text)

-- LEXPR of three bytes, without a shift, after a byte $22
abbrev pub is_call : ℕ → ℕ → ℤ → List Cell → Bool
is_call code count shift before = code == LEXPR && count == 3 && is_unshifted shift && ends_in_jsl before

-- the load segment with these fields and cells
abbrev pub image_of : HeaderFields → List Cell → List Record → Image
image_of fields cells exports = record { fields = fields; content = map byte_under cells; patches = patches_of_cells cells; exports = exports; whole = false }

abbrev pub names_in : ℕ → Option (List ℕ) → List (List ℕ)
names_in lab_len None = []
names_in lab_len (Some text) = elim (tree_in lab_len text) [ None ↦ [] | Some tree ↦ asked_by tree ]
