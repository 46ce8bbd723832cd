-- Files have a load file, or a first fault of a phase, which isn't Memory.
use Rattle.std.proofs.Common.{◌≡◌, ◌≢◌, ◌⊎◌, inl, inr, ℕ, ◌+◌, ◌<◌, Bool, true, false, ltb, ltb-true, ltb-false, eqb, List, [], ◌∷◌, ◌++◌, length, map, Option, Some, None, Result, Ok, Err, refl, sym, ap, subst, ◌∙◌, append_assoc, arith}
use Rattle.std.proofs.lemmas.List.{append-nil}
use Rattle.std.proofs.lemmas.Bool.{eqb-true, eq-eqb}
use Rattle.std.specs.Prelude.{◌&&◌, ◌||◌, not, nat_lt, ◌==◌, slice_get}
use Rattle.std.specs.List.{list_any, AllByRecursion}
use Rattle.omf_format.specs.Number.{IsBytes}
use Rattle.omf_format.specs.Header.{HeaderFields, is_dynamic, is_skipped}
use Rattle.omf_format.specs.File.{Segment, IsFile}
use Rattle.omf_format.specs.laws.FileLaws.{file_same, no_file}
use Rattle.load_meaning.specs.Runtime.{runtime_fault, IsRuntime, IsFirstRuntimeFault, OfLoading, OfKind}
use Rattle.load_meaning.specs.declared.load.LoadFault.{LoadFault}
use Rattle.load_meaning.specs.laws.LoadableLaws.{loadable_same, loadable_sound}
use Rattle.object_meaning.specs.Sizes.{most_bytes}
use Rattle.lib_dict.specs.DictionaryLayout.{RowsAreLaidOut}
use Rattle.link_meaning.specs.declared.fault.LinkCause.{LinkCause}
use Rattle.link_meaning.specs.declared.fault.LinkCause.TheVariants.{BadLibrary, Empty, OrgConflict, TooManySegments, SegmentTooLong, NotDynamic, Circular, FileTooLong, Memory}
use Rattle.link_meaning.specs.declared.fault.LinkFault.{LinkFault}
use Rattle.link_meaning.specs.declared.form.LinkForm.TheVariants.{Program, Runtime as LibraryForm}
use Rattle.link_meaning.specs.First.{IsFirst, HasNone, IsIn}
use Rattle.link_meaning.specs.laws.FirstLaws.{none_yet, none_more}
use Rattle.link_meaning.specs.Member.{OfferedRow, Input, RuntimeFile, LinkSetting, Member, objects, form_in}
use Rattle.link_meaning.specs.Search.{FoundDefinition}
use Rattle.link_meaning.specs.LinkedList.{PlacedUse, all_uses, found_for}
use Rattle.link_meaning.specs.Layout.{in_load, load_names, load_members, load_headers}
use Rattle.link_meaning.specs.Cycles.{equates, IsCircular}
use Rattle.link_meaning.specs.LinkValues.{EquateAnswer, IsTable}
use Rattle.link_meaning.specs.LinkedCells.{Item, Made, items, state_after, made}
use Rattle.link_meaning.specs.LinkWritten.{written_file}
use Rattle.link_meaning.specs.LinkFaults.{no_spot, spot_in, link_cause, segments_fault, rows_in_file, HasFileFault, OfFile, OfSegment, OfDictionary, IsInput, AreInputs, runtime_cause, AreRuntimes, LinkInput, HasBytes, InputPart, OfInput, OfRuntime, HasPartFault, IsSetting, IsProgram, use_cause, HasUseFault, HasOrgFault, first_spot, HasCountFault, HasLengthFault, HasKindFault, LayoutCheck, Orgs, Count, Lengths, Kinds, HasLayoutFault, Phase, Reading, Objects, Names, Layout, HasPhaseFault, IsFirstResolveFault, IsResolved}
use Rattle.link_meaning.specs.EmitFaults.{HasCycleFault, HasValueFault, EmitPhase, Cycles, Values, Size, HasEmitFault, IsFirstEmitFault, IsEmitted, IsFirstLinkFault, OfResolving, OfEmitting, IsLinkedTo}
use Rattle.link_meaning.specs.laws.LinkFaultLaws.{inputs_same, setting_same, one_program}
use Rattle.link_meaning.specs.laws.TableLaws.{one_table}
use Rattle.link_meaning.specs.laws.EquatePlaces.{apart}
use Rattle.link_meaning.specs.laws.EquateTables.{table_without_cycles}
use Rattle.answers.specs.Inputs.{LinksAreAnswered}
use Rattle.answers.specs.laws.FileAnswers.{FileAnswer, files_are_answered}
use Rattle.answers.specs.laws.LoadAnswers.{RuntimeAnswer, runtime_files_are_answered}
use Rattle.answers.specs.laws.Decisions.{is_it, HasOrNot, FirstOrNone, first_or_none, no_first, is_in_middle}
use Rattle.answers.specs.laws.CycleDecisions.{circular_or_not}
use Rattle.answers.specs.laws.LinkCauses.{first_link_cause}
use Rattle.answers.specs.laws.LinkedLists.{linked_list}

abbrev some : {A : Type 0} → A → Option A
some x = Some x

none_some : {A : Type 0} (x : A) → None ≡ some x → ⊥
none_some x e = cc

abbrev fine : {A E : Type 0} → A → Result A E
fine x = Ok x

abbrev failed : {A E : Type 0} → E → Result A E
failed e = Err e

fine_failed : {A E : Type 0} (x : A) (e : E) → fine {E = E} x ≡ failed e → ⊥
fine_failed x e is = cc

-- ---- one input

-- an input has no fault
not_at_fault : (file : ℕ) (bytes : List ℕ) (input : Input) (fault : LinkFault) → IsInput bytes input → HasFileFault file bytes fault → ⊥
not_at_fault file bytes input fault is (OfFile found first says) = no_file bytes found input.segments first is.is_file
not_at_fault file bytes input fault is (OfSegment segments found is_file has says) =
    none_some found (sym is.sound ∙ ap (segments_fault 1) (file_same input.segments segments bytes is.is_file is_file) ∙ has)
not_at_fault file bytes input fault is (OfDictionary segments at is_file none has says) =
    fine_failed input.rows at (sym is.rows ∙ ap rows_in_file (file_same input.segments segments bytes is.is_file is_file) ∙ has)

abbrev InputAnswer : ℕ → List ℕ → Type 0
InputAnswer file bytes = ((input : Input) × IsInput bytes input) ⊎ ((fault : LinkFault) × HasFileFault file bytes fault)

input_answer : (file : ℕ) (bytes : List ℕ) → IsBytes bytes → InputAnswer file bytes
input_answer file bytes fits = by_file (files_are_answered bytes fits)
  where
    by_rows : (segments : List Segment) → IsFile segments bytes → segments_fault 1 segments ≡ None → (found : Result (List OfferedRow) ℕ) → rows_in_file segments ≡ found → InputAnswer file bytes
    by_rows segments is sound (Ok rows) e = inl (record { segments = segments; rows = rows }, record { is_file = is; sound = sound; rows = e })
    by_rows segments is sound (Err at) e =
        inr (record { cause = BadLibrary; name = None; spot = record { file = file; segment = 1; at = at } }, OfDictionary segments at is sound e refl)

    by_segments : (segments : List Segment) → IsFile segments bytes → (found : Option (ℕ × (LinkCause × ℕ))) → segments_fault 1 segments ≡ found → InputAnswer file bytes
    by_segments segments is None e = by_rows segments is e (rows_in_file segments) refl
    by_segments segments is (Some found) e =
        inr (record { cause = found.1.0; name = None; spot = record { file = file; segment = found.0; at = found.1.1 } }, OfSegment segments found is e refl)

    by_file : FileAnswer bytes → InputAnswer file bytes
    by_file (inl read) = by_segments read.0 read.1 (segments_fault 1 read.0) refl
    by_file (inr fault) =
        inr (record { cause = link_cause fault.0.cause; name = None; spot = record { file = file; segment = fault.0.segment; at = fault.0.at } }, OfFile fault.0 fault.1 refl)

-- a run-time library file has no fault
runtime_sound : (bytes : List ℕ) (segments : List Segment) (fault : LoadFault) → IsRuntime bytes segments → IsFirstRuntimeFault bytes fault → ⊥
runtime_sound bytes segments fault is (OfLoading first) = loadable_sound bytes segments fault is.loadable first
runtime_sound bytes segments fault is (OfKind others loadable has) =
    none_some fault (sym is.dynamic ∙ ap runtime_fault (loadable_same bytes segments others is.loadable loadable) ∙ has)

-- ---- all inputs

abbrev AtFault : List InputPart → Type 0
AtFault all = (fault : LinkFault) × IsFirst HasPartFault all fault

-- the inputs were read, and no part up to their end has a fault
record HasRead (all rest : List InputPart) (files : List (List ℕ)) : Type 0 where
  inputs : List Input
  are : AreInputs files inputs
  front : List InputPart
  parts : all ≡ front ++ rest
  none : HasNone HasPartFault front

read_inputs : (all before rest : List InputPart) (files : List (List ℕ)) → AllByRecursion IsBytes files → all ≡ before ++ (map OfInput files ++ rest) → HasNone HasPartFault before
    → AtFault all ⊎ HasRead all rest files
read_inputs all before rest [] fits e none = inr (record { inputs = []; are = tt; front = before; parts = e; none = none })
read_inputs all before rest (bytes ∷ files) fits e none =
    by_answer (input_answer (length before + 1) bytes fits.0)
    (λ none'. read_inputs all (before ++ OfInput bytes ∷ []) rest files fits.1 (e ∙ sym (append_assoc before (OfInput bytes ∷ []) (map OfInput files ++ rest))) none')
  where
    more : (input : Input) → IsInput bytes input → AtFault all ⊎ HasRead all rest files → AtFault all ⊎ HasRead all rest (bytes ∷ files)
    more input is (inl fault) = inl fault
    more input is (inr read) = inr (record { inputs = input ∷ read.inputs; are = (is, read.are); front = read.front; parts = read.parts; none = read.none })

    by_answer : InputAnswer (length before + 1) bytes → (HasNone HasPartFault (before ++ OfInput bytes ∷ []) → AtFault all ⊎ HasRead all rest files) → AtFault all ⊎ HasRead all rest (bytes ∷ files)
    by_answer (inl read) later = more read.0 read.1 (later (none_more HasPartFault before (OfInput bytes) none (λ fault has. not_at_fault (length before + 1) bytes read.0 fault read.1 has)))
    by_answer (inr fault) later =
        inl (fault.0, record { before = before; item = OfInput bytes; after = map OfInput files ++ rest; parts = e; none = none; here = fault.1 })

-- the run-time library files were read, and no part has a fault
record HasReadAll (all : List InputPart) (files : List (List ℕ × List ℕ)) : Type 0 where
  runtimes : List RuntimeFile
  are : AreRuntimes files runtimes
  none : HasNone HasPartFault all

abbrev runtime_parts : List (List ℕ × List ℕ) → List InputPart
runtime_parts files = map (λ file. OfRuntime file.1) files

read_runtimes : (all before : List InputPart) (files : List (List ℕ × List ℕ)) → AllByRecursion (λ file. IsBytes file.1) files → all ≡ before ++ runtime_parts files → HasNone HasPartFault before
    → AtFault all ⊎ HasReadAll all files
read_runtimes all before [] fits e none = inr (record { runtimes = []; are = tt; none = subst (HasNone HasPartFault) (sym (e ∙ append-nil before)) none })
read_runtimes all before (file ∷ files) fits e none =
    by_answer (runtime_files_are_answered file.1 fits.0)
    (λ none'. read_runtimes all (before ++ OfRuntime file.1 ∷ []) files fits.1 (e ∙ sym (append_assoc before (OfRuntime file.1 ∷ []) (runtime_parts files))) none')
  where
    more : (segments : List Segment) → IsRuntime file.1 segments → AtFault all ⊎ HasReadAll all files → AtFault all ⊎ HasReadAll all (file ∷ files)
    more segments is (inl fault) = inl fault
    more segments is (inr read) = inr (record { runtimes = record { path = file.0; segments = segments } ∷ read.runtimes; are = (refl, is, read.are); none = read.none })

    by_answer : RuntimeAnswer file.1 → (HasNone HasPartFault (before ++ OfRuntime file.1 ∷ []) → AtFault all ⊎ HasReadAll all files) → AtFault all ⊎ HasReadAll all (file ∷ files)
    by_answer (inl read) later = more read.0 read.1 (later (none_more HasPartFault before (OfRuntime file.1) none (λ fault has. runtime_sound file.1 read.0 has.found read.1 has.first)))
    by_answer (inr found) later =
        let fault : LinkFault = record { cause = runtime_cause found.0.cause; name = None; spot = record { file = length before + 1; segment = found.0.segment; at = found.0.at } } in
        inl (
          fault,
          record {
            before = before;
            item = OfRuntime file.1;
            after = runtime_parts files;
            parts = e;
            none = none;
            here = record { found = found.0; first = found.1; reported = refl };
          },
        )

-- ---- names

use_fault : (list : List Member) (before : List PlacedUse) (a : PlacedUse) → HasOrNot (HasUseFault list) before a
use_fault list before a = by_cause (use_cause a.use'.want (found_for list a.place a.member a.use')) refl
  where
    by_cause : (found : Option LinkCause) → use_cause a.use'.want (found_for list a.place a.member a.use') ≡ found → HasOrNot (HasUseFault list) before a
    by_cause (Some cause) e = inl (record { cause = cause; name = Some a.use'.name; spot = spot_in a.member a.use'.at }, record { cause = e; name = refl; spot = refl })
    by_cause None e = inr (λ fault has. none_some fault.cause (sym e ∙ has.cause))

-- ---- layout

true_false : true ≡ false → ⊥
true_false e = cc

org_fault : (before : List Member) (m : Member) → HasOrNot HasOrgFault before m
org_fault before m = by_org (list_any (in_load m.segment.fields.load_name) before) refl (eqb m.segment.fields.org 0) refl
  where
    by_org : (b : Bool) → list_any (in_load m.segment.fields.load_name) before ≡ b → (c : Bool) → eqb m.segment.fields.org 0 ≡ c → HasOrNot HasOrgFault before m
    by_org true is false other = inl (
      record { cause = OrgConflict; name = None; spot = spot_in m m.segment.start },
      record { later = is; asks = λ zero. true_false (sym (eq-eqb m.segment.fields.org 0 zero) ∙ other); reported = refl },
    )
    by_org true is true none = inr (λ fault has. has.asks (eqb-true m.segment.fields.org 0 none))
    by_org false first c e = inr (λ fault has. true_false (sym has.later ∙ first))

count_fault : (list : List Member) → ((fault : LinkFault) × HasCountFault list fault) ⊎ ((fault : LinkFault) → HasCountFault list fault → ⊥)
count_fault list = by_name (slice_get (load_names list) 254) refl
  where
    by_name : (found : Option (List ℕ)) → slice_get (load_names list) 254 ≡ found → ((fault : LinkFault) × HasCountFault list fault) ⊎ ((fault : LinkFault) → HasCountFault list fault → ⊥)
    by_name (Some name) e = inl (record { cause = TooManySegments; name = None; spot = first_spot (load_members name list) }, record { load_name = name; there = e; reported = refl })
    by_name None e = inr (λ fault has. none_some has.load_name (sym e ∙ has.there))

length_fault : (list : List Member) (before : List HeaderFields) (f : HeaderFields) → HasOrNot (HasLengthFault list) before f
length_fault list before f = elim (is_it (nat_lt 0xFFFFFF f.length || (not (f.bank_size == 0) && nat_lt f.bank_size f.length))) [
  | inl long ↦ inl (record { cause = SegmentTooLong; name = None; spot = first_spot (load_members f.load_name list) }, record { long = long; reported = refl })
  | inr fits ↦ inr (λ fault has. fits has.long)
]

kind_fault : (list : List Member) (before : List HeaderFields) (f : HeaderFields) → HasOrNot (HasKindFault list) before f
kind_fault list before f = elim (is_it (elim (form_in list) [ Program ↦ false | LibraryForm ↦ not (is_dynamic f.kind && not (is_skipped f.kind)) ])) [
  | inl other ↦ inl (record { cause = NotDynamic; name = None; spot = first_spot (load_members f.load_name list) }, record { other = other; reported = refl })
  | inr fits ↦ inr (λ fault has. fits has.other)
]

-- a first, or none that is one
first_or_not : {A B : Type 0} (Has : List A → A → B → Type 0) (items : List A) → FirstOrNone Has items → ((what : B) × IsFirst Has items what) ⊎ ((what : B) → IsFirst Has items what → ⊥)
first_or_not Has items (inl first) = inl first
first_or_not Has items (inr none) = inr (λ what is. no_first Has items what none is)

layout_fault : (list : List Member) (before : List LayoutCheck) (check : LayoutCheck) → HasOrNot (HasLayoutFault list) before check
layout_fault list before Orgs = first_or_not HasOrgFault list (first_or_none HasOrgFault list (λ b m rest e. org_fault b m))
layout_fault list before Count = count_fault list
layout_fault list before Lengths = first_or_not (HasLengthFault list) (load_headers list) (first_or_none (HasLengthFault list) (load_headers list) (λ b f rest e. length_fault list b f))
layout_fault list before Kinds = first_or_not (HasKindFault list) (load_headers list) (first_or_none (HasKindFault list) (load_headers list) (λ b f rest e. kind_fault list b f))

-- ---- the phases up to layout

abbrev ResolveAnswer : LinkInput → Type 0
ResolveAnswer given = ((list : List Member) × IsResolved given list) ⊎ ((fault : LinkFault) × IsFirstResolveFault given fault)

resolve_answer : RowsAreLaidOut → (given : LinkInput) → HasBytes given → ResolveAnswer given
resolve_answer laid given bytes = by_inputs (read_inputs parts [] (runtime_parts given.runtimes) given.inputs bytes.0 refl (none_yet HasPartFault))
  where
    parts : List InputPart
    parts = map OfInput given.inputs ++ runtime_parts given.runtimes

    at_phase : (before : List Phase) (phase : Phase) (after : List Phase) (fault : LinkFault) → Reading ∷ Objects ∷ Names ∷ Layout ∷ [] ≡ before ++ phase ∷ after
        → HasNone (HasPhaseFault given) before → HasPhaseFault given before phase fault → ResolveAnswer given
    at_phase before phase after fault e none has = inr (fault, record { before = before; item = phase; after = after; parts = e; none = none; here = has })

    by_layout : (list : List Member) → IsProgram given list → HasNone (HasPhaseFault given) (Reading ∷ Objects ∷ Names ∷ []) → FirstOrNone (HasLayoutFault list) (Orgs ∷ Count ∷ Lengths ∷ Kinds ∷ [])
        → ResolveAnswer given
    by_layout list is none (inl first) = at_phase (Reading ∷ Objects ∷ Names ∷ []) Layout [] first.0 refl none (list, is, first.1)
    by_layout list is none (inr sound) = inl (
      list,
      record {
        program = is;
        sound = none_more (HasPhaseFault given) (Reading ∷ Objects ∷ Names ∷ []) Layout none
            (λ fault has. no_first (HasLayoutFault list) (Orgs ∷ Count ∷ Lengths ∷ Kinds ∷ []) fault sound
            (subst (λ (l : List Member). IsFirst (HasLayoutFault l) (Orgs ∷ Count ∷ Lengths ∷ Kinds ∷ []) fault) (one_program given has.0 list has.1 is) has.2));
      },
    )

    by_names : (list : List Member) → IsProgram given list → HasNone (HasPhaseFault given) (Reading ∷ Objects ∷ []) → FirstOrNone (HasUseFault list) (all_uses list) → ResolveAnswer given
    by_names list is none (inl first) = at_phase (Reading ∷ Objects ∷ []) Names (Layout ∷ []) first.0 refl none (list, is, first.1)
    by_names list is none (inr sound) = by_layout list is
        (none_more (HasPhaseFault given) (Reading ∷ Objects ∷ []) Names none
        (λ fault has. no_first (HasUseFault list) (all_uses list) fault sound
        (subst (λ (l : List Member). IsFirst (HasUseFault l) (all_uses l) fault) (one_program given has.0 list has.1 is) has.2)))
        (first_or_none (HasLayoutFault list) (Orgs ∷ Count ∷ Lengths ∷ Kinds ∷ []) (λ before check rest e. layout_fault list before check))

    by_list : (list : List Member) → IsProgram given list → HasNone (HasPhaseFault given) (Reading ∷ Objects ∷ []) → ResolveAnswer given
    by_list list is none = by_names list is none (first_or_none (HasUseFault list) (all_uses list) (λ before a rest e. use_fault list before a))

    by_objects : (setting : LinkSetting) → IsSetting given setting → (inputs : List Input) → AreInputs given.inputs inputs → HasNone (HasPhaseFault given) (Reading ∷ [])
        → (found : List Member) → objects setting inputs ≡ found → ResolveAnswer given
    by_objects setting is inputs are none [] e = at_phase (Reading ∷ []) Objects (Names ∷ Layout ∷ []) (record { cause = Empty; name = None; spot = no_spot }) refl none
        (setting, inputs, is, are, e, refl)
    by_objects setting is inputs are none (m ∷ members) e =
        let linked = linked_list laid setting given.inputs inputs are in
        by_list linked.0 (record { setting = setting; is_setting = is; inputs = inputs; are_inputs = are; linked = linked.1 })
        (none_more (HasPhaseFault given) (Reading ∷ []) Objects none
        (λ fault has. some_objects m members
        (sym e ∙ ap (λ (s : LinkSetting). objects s inputs) (setting_same given setting has.0 is has.2) ∙ ap (objects has.0) (inputs_same given.inputs inputs has.1 are has.3) ∙ has.4)))
      where
        some_objects : (m : Member) (members : List Member) → m ∷ members ≡ [] → ⊥
        some_objects m members e = cc

    by_runtimes : (inputs : List Input) → AreInputs given.inputs inputs → AtFault parts ⊎ HasReadAll parts given.runtimes → ResolveAnswer given
    by_runtimes inputs are (inl fault) = at_phase [] Reading (Objects ∷ Names ∷ Layout ∷ []) fault.0 refl (none_yet (HasPhaseFault given)) fault.1
    by_runtimes inputs are (inr read) =
        let setting : LinkSetting = record { form = given.form; runtimes = read.runtimes } in
        by_objects setting (record { form' = refl; runtimes' = read.are }) inputs are
        (none_more (HasPhaseFault given) [] Reading (none_yet (HasPhaseFault given)) (λ fault has. no_first HasPartFault parts fault read.none has))
        (objects setting inputs) refl

    by_inputs : AtFault parts ⊎ HasRead parts (runtime_parts given.runtimes) given.inputs → ResolveAnswer given
    by_inputs (inl fault) = at_phase [] Reading (Objects ∷ Names ∷ Layout ∷ []) fault.0 refl (none_yet (HasPhaseFault given)) fault.1
    by_inputs (inr read) = by_runtimes read.inputs read.are (read_runtimes parts read.front given.runtimes bytes.1 read.parts read.none)

-- ---- the phases after layout

abbrev EmitAnswer : List Member → Type 0
EmitAnswer list = ((table : List EquateAnswer) × IsEmitted list table) ⊎ ((fault : LinkFault) × IsFirstEmitFault list fault)

value_fault : (list : List Member) (table : List EquateAnswer) (before : List Item) (i : Item) → HasOrNot (HasValueFault list table) before i
value_fault list table before i = by_made (made list table (state_after list table before) i) refl
  where
    by_made : (found : Result Made LinkCause) → made list table (state_after list table before) i ≡ found → HasOrNot (HasValueFault list table) before i
    by_made (Err cause) e = inl (record { cause = cause; name = None; spot = spot_in i.member i.here.at }, record { cause = e; name = refl; spot = refl })
    by_made (Ok x) e = inr (λ fault has. fine_failed x fault.cause (sym e ∙ has.cause))

emit_answer : (given : LinkInput) (list : List Member) → HasBytes given → IsResolved given list → EmitAnswer list
emit_answer given list bytes resolved = by_cycles (first_or_none (HasCycleFault list) (equates list) cycle_fault)
  where
    cycle_fault : (before : List FoundDefinition) (e : FoundDefinition) (following : List FoundDefinition) → equates list ≡ before ++ e ∷ following → HasOrNot (HasCycleFault list) before e
    cycle_fault before e following parts =
        elim (circular_or_not list (apart given list bytes resolved) e (subst (λ (l : List FoundDefinition). IsIn l e) (sym parts) (is_in_middle before e following))) [
          | inl cycle ↦ inl (record { cause = Circular; name = Some e.definition.name; spot = spot_in e.member e.definition.at }, record { cycle = cycle; reported = refl })
          | inr straight ↦ inr (λ fault has. straight has.cycle)
        ]

    at_phase : (before : List EmitPhase) (phase : EmitPhase) (after : List EmitPhase) (fault : LinkFault) → Cycles ∷ Values ∷ Size ∷ [] ≡ before ++ phase ∷ after
        → HasNone (HasEmitFault list) before → HasEmitFault list before phase fault → EmitAnswer list
    at_phase before phase after fault e none has = inr (fault, record { before = before; item = phase; after = after; parts = e; none = none; here = has })

    by_size : (table : List EquateAnswer) → IsTable list table → HasNone (HasEmitFault list) (Cycles ∷ Values ∷ []) → (b : Bool) → ltb most_bytes (length (written_file list table)) ≡ b → EmitAnswer list
    by_size table is none true e = at_phase (Cycles ∷ Values ∷ []) Size [] (record { cause = FileTooLong; name = None; spot = no_spot }) refl none
        (table, is, record { long = ltb-true most_bytes (length (written_file list table)) e; reported = refl })
    by_size table is none false e = inl (
      table,
      record {
        valued = is;
        sound = none_more (HasEmitFault list) (Cycles ∷ Values ∷ []) Size none (λ fault has.
            let same : has.0 ≡ table = one_table list has.0 table has.1 is in
            let long : most_bytes < length (written_file list table) = subst (λ (t : List EquateAnswer). most_bytes < length (written_file list t)) same has.2.long in
            absurd (omega (arith, long, ltb-false most_bytes (length (written_file list table)) e)));
      },
    )

    by_values : (table : List EquateAnswer) → IsTable list table → HasNone (HasEmitFault list) (Cycles ∷ []) → FirstOrNone (HasValueFault list table) (items list) → EmitAnswer list
    by_values table is none (inl first) = at_phase (Cycles ∷ []) Values (Size ∷ []) first.0 refl none (table, is, first.1)
    by_values table is none (inr sound) = by_size table is
        (none_more (HasEmitFault list) (Cycles ∷ []) Values none (λ fault has.
        no_first (HasValueFault list table) (items list) fault sound
        (subst (λ (t : List EquateAnswer). IsFirst (HasValueFault list t) (items list) fault) (one_table list has.0 table has.1 is) has.2)))
        (ltb most_bytes (length (written_file list table))) refl

    straight : HasNone (HasCycleFault list) (equates list) → (e : FoundDefinition) → IsIn (equates list) e → IsCircular list e → ⊥
    straight none e there cycle =
        let at = split (equates list) e there in
        none at.0 e at.1 (record { cause = Circular; name = Some e.definition.name; spot = spot_in e.member e.definition.at }) at.2 (record { cycle = cycle; reported = refl })
      where
        split : (xs : List FoundDefinition) (x : FoundDefinition) → IsIn xs x → (before : List FoundDefinition) × (following : List FoundDefinition) × (xs ≡ before ++ x ∷ following)
        split [] x is = absurd is
        split (y ∷ xs) x (inl same) = ([], xs, ap (λ (z : FoundDefinition). z ∷ xs) same)
        split (y ∷ xs) x (inr more) = let rest = split xs x more in (y ∷ rest.0, rest.1, ap (λ (l : List FoundDefinition). y ∷ l) rest.2)

    by_cycles : FirstOrNone (HasCycleFault list) (equates list) → EmitAnswer list
    by_cycles (inl first) = at_phase [] Cycles (Values ∷ Size ∷ []) first.0 refl (none_yet (HasEmitFault list)) first.1
    by_cycles (inr none) =
        let table = table_without_cycles given list bytes resolved (straight none) in
        by_values table.0 table.1
        (none_more (HasEmitFault list) [] Cycles (none_yet (HasEmitFault list)) (λ fault has. no_first (HasCycleFault list) (equates list) fault none has))
        (first_or_none (HasValueFault list table.0) (items list) (λ before i rest e. value_fault list table.0 before i))

abbrev LinkAnswer : LinkInput → Type 0
LinkAnswer given = ((output : List ℕ) × IsLinkedTo given output) ⊎ ((fault : LinkFault) × IsFirstLinkFault given fault × (fault.cause ≢ Memory))

-- files have a load file or a first fault
pub links_are_answered : RowsAreLaidOut → LinksAreAnswered
links_are_answered laid given bytes = by_resolving (resolve_answer laid given bytes)
  where
    at_fault : (fault : LinkFault) → IsFirstLinkFault given fault → LinkAnswer given
    at_fault fault first = inr (fault, first, first_link_cause given fault first)

    by_emitting : (list : List Member) → IsResolved given list → EmitAnswer list → LinkAnswer given
    by_emitting list resolved (inl emitted) =
        inl (written_file list emitted.0, record { list = list; table = emitted.0; linkable = record { resolved = resolved; emitted = emitted.1 }; is_written = refl })
    by_emitting list resolved (inr fault) = at_fault fault.0 (OfEmitting list resolved fault.1)

    by_resolving : ResolveAnswer given → LinkAnswer given
    by_resolving (inl resolved) = by_emitting resolved.0 resolved.1 (emit_answer given resolved.0 bytes resolved.1)
    by_resolving (inr fault) = at_fault fault.0 (OfResolving fault.1)
