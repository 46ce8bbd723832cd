-- What the members export is what the file exports.
use Rattle.std.proofs.Common.{◌≡◌, inl, inr, ℕ, ◌+◌, Bool, true, false, cond, eqb, List, [], ◌∷◌, ◌++◌, map, filter, Option, Some, None, Result, Ok, Err, refl, sym, ap, ◌∙◌, append-nil, arith}
use Rattle.std.specs.Prelude.{is_some}
use Rattle.std.specs.List.{flat_map}
use Rattle.std.proofs.lemmas.Bool.{eqb-true}
use Rattle.std.proofs.lemmas.Grind.{flat_map-append}
use Rattle.std.proofs.lemmas.List.Concat.{flat_map-cons}
use Rattle.omf_format.specs.declared.value.Value.{Value}
use Rattle.omf_format.specs.declared.value.ValueFault.{ValueFault}
use Rattle.omf_format.specs.declared.value.ValueFault.TheVariants.{NotRelocatable}
use Rattle.omf_format.specs.Header.{HeaderFields}
use Rattle.omf_format.specs.Record.{Record}
use Rattle.object_meaning.specs.Defines.{Scope, ForSegment, ForUnit, ForAll, Definition, defined_in}
use Rattle.link_meaning.specs.First.{IsIn}
use Rattle.link_meaning.specs.declared.form.LinkForm.{LinkForm}
use Rattle.link_meaning.specs.declared.form.LinkForm.TheVariants.{Program, Runtime as LibraryForm}
use Rattle.link_meaning.specs.Member.{Member, form_in}
use Rattle.link_meaning.specs.Layout.{load_headers}
use Rattle.link_meaning.specs.Search.{FoundDefinition, entries_from, entries}
use Rattle.link_meaning.specs.Cycles.{is_equate, equates}
use Rattle.link_meaning.specs.LinkValues.{EquateAnswer, IsTable, value_of_definition, found_value, outside_value, place_value, value_in}
use Rattle.link_meaning.specs.LinkWritten.{export_at, exports}
use Rattle.link_meaning.specs.laws.Steps.{export_of}
use Rattle.link_meaning.specs.laws.TableLaws.{reports_of}
use Rattle.link_map.specs.declared.symbols.Listed.TheVariants.{Exports}
use Rattle.link_map.specs.MapText.{numbered_texts, meant_by, export_line, exports_text}
use Rattle.link_map.specs.Listings.{exported_text, definition_line, exported_in}

abbrev found_at : ℕ → Member → Definition → FoundDefinition
found_at place m d = record { place = place; member = m; definition = d }

-- the lines of ENTRY records
abbrev record_lines : List Record → List ℕ
record_lines records = flat_map export_line records

-- ---- one definition

in_filter : (fs : List FoundDefinition) (f : FoundDefinition) → IsIn fs f → is_equate f ≡ true → IsIn (filter is_equate fs) f
in_filter [] f is equate = absurd is
in_filter (g ∷ fs) f (inl same) equate = by_test (is_equate g) (ap is_equate same ∙ equate)
  where
    by_test : (b : Bool) → b ≡ true → IsIn (cond b (g ∷ filter is_equate fs) (filter is_equate fs)) f
    by_test true is = inl same
    by_test false is = absurd cc
in_filter (g ∷ fs) f (inr more) equate = by_test (is_equate g) (in_filter fs f more equate)
  where
    by_test : (b : Bool) → IsIn (filter is_equate fs) f → IsIn (cond b (g ∷ filter is_equate fs) (filter is_equate fs)) f
    by_test true rest = inr rest
    by_test false rest = rest

in_equates : (list : List Member) (f : FoundDefinition) → IsIn (entries list) f → is_equate f ≡ true → IsIn (equates list) f
unfolding equates
in_equates list f is equate = in_filter (entries list) f is equate

place_first : (n : ℕ) (x y : Value) → (n ≡ 0 → ⊥) → cond (eqb n 0) x y ≡ y
place_first n x y some = by_test (eqb n 0) refl
  where
    by_test : (b : Bool) → eqb n 0 ≡ b → cond b x y ≡ y
    by_test true is = absurd (some (eqb-true n 0 is))
    by_test false is = refl

abbrev value_is : Value → Result Value ValueFault
value_is v = Ok v

-- a definition of a member means what its name means where it is found
meant_as_found : (list : List Member) (table : List EquateAnswer) → IsTable list table → (place : ℕ) (m : Member) (d : Definition) → (place ≡ 0 → ⊥) → IsIn (entries list) (found_at place m d)
    → meant_by list table place m d ≡ found_value list table (found_at place m d)
meant_as_found list table is place m d some there = by_expr d.expr (λ equate. reports_of list table (equates list) table is.rows f (in_equates list f there equate))
  where
    f : FoundDefinition
    f = found_at place m d

    own : Value
    own = place_value list place m d.place

    meant : Option (List ℕ) → Result Value ValueFault
    meant expr = elim expr [ None ↦ Ok own | Some text ↦ value_in list table place m d.place text ]

    found : Option (List ℕ) → Result Value ValueFault
    found expr = elim expr [ None ↦ Ok (cond (eqb place 0) (outside_value f) own) | Some text ↦ value_of_definition table place d.at ]

    worth : Option (List ℕ) → Result Value ValueFault
    worth expr = elim expr [ None ↦ Err NotRelocatable | Some text ↦ value_in list table place m d.place text ]

    by_expr : (expr : Option (List ℕ)) → (is_some expr ≡ true → value_of_definition table place d.at ≡ worth expr) → meant expr ≡ found expr
    by_expr None go = ap value_is (sym (place_first place (outside_value f) own some))
    by_expr (Some text) go = sym (go refl)

exported_line : (list : List Member) (table : List EquateAnswer) → IsTable list table → (place : ℕ) (m : Member) (d : Definition) → (place ≡ 0 → ⊥) → IsIn (entries list) (found_at place m d)
    → definition_line Exports list table place m d ≡ record_lines (export_of list table (found_at place m d))
exported_line list table is place m d some there =
    by_scope d.scope (meant_by list table place m d)
    ∙ ap (λ (value : Result Value ValueFault). record_lines (records d.scope value)) (meant_as_found list table is place m d some there)
  where
    headers : List HeaderFields
    headers = load_headers list

    records : Scope → Result Value ValueFault → List Record
    records scope value = elim scope [ ForSegment ↦ [] | ForUnit ↦ [] | ForAll ↦ export_at headers d.name value ]

    by_scope : (scope : Scope) (value : Result Value ValueFault) → exported_text headers scope d.name value ≡ record_lines (records scope value)
    by_scope ForSegment value = refl
    by_scope ForUnit value = refl
    by_scope ForAll value = refl

-- ---- all

in_left : {A : Type 0} (xs ys : List A) (x : A) → IsIn xs x → IsIn (xs ++ ys) x
in_left [] ys x is = absurd is
in_left (z ∷ xs) ys x (inl same) = inl same
in_left (z ∷ xs) ys x (inr more) = inr (in_left xs ys x more)

in_right : {A : Type 0} (xs ys : List A) (x : A) → IsIn ys x → IsIn (xs ++ ys) x
in_right [] ys x is = is
in_right (z ∷ xs) ys x is = inr (in_right xs ys x is)

in_member : (place : ℕ) (m : Member) (ds : List Definition) (d : Definition) → IsIn ds d → IsIn (map (found_at place m) ds) (found_at place m d)
in_member place m [] d is = absurd is
in_member place m (e ∷ ds) d (inl same) = inl (ap (found_at place m) same)
in_member place m (e ∷ ds) d (inr more) = inr (in_member place m ds d more)

-- the lines of definitions of one member
exported_lines : (list : List Member) (table : List EquateAnswer) → IsTable list table → (place : ℕ) (m : Member) (ds : List Definition) → (place ≡ 0 → ⊥)
    → ((d : Definition) → IsIn ds d → IsIn (entries list) (found_at place m d))
    → flat_map (definition_line Exports list table place m) ds ≡ record_lines (flat_map (export_of list table) (map (found_at place m) ds))
exported_lines list table is place m [] some there = refl
exported_lines list table is place m (d ∷ ds) some there =
    let line = definition_line Exports list table place m in
    let own = export_of list table (found_at place m d) in
    let rest = flat_map (export_of list table) (map (found_at place m) ds) in
    flat_map-cons line d ds
    ∙ ap (λ (l : List ℕ). l ++ flat_map line ds) (exported_line list table is place m d some (there d (inl refl)))
    ∙ ap (λ (l : List ℕ). record_lines own ++ l) (exported_lines list table is place m ds some (λ e in_rest. there e (inr in_rest)))
    ∙ sym (flat_map-append export_line own rest)
    ∙ ap record_lines (sym (flat_map-cons (export_of list table) (found_at place m d) (map (found_at place m) ds)))

-- those of members
members_export : (list : List Member) (table : List EquateAnswer) → IsTable list table → (place : ℕ) (ms : List Member) → (place ≡ 0 → ⊥)
    → ((f : FoundDefinition) → IsIn (entries_from defined_in place ms) f → IsIn (entries list) f)
    → numbered_texts (exported_in list table) place ms ≡ record_lines (flat_map (export_of list table) (entries_from defined_in place ms))
members_export list table is place [] some there = refl
members_export list table is place (m ∷ ms) some there =
    let own = map (found_at place m) (defined_in m.segment) in
    let rest = entries_from defined_in (place + 1) ms in
    ap (λ (l : List ℕ). l ++ numbered_texts (exported_in list table) (place + 1) ms)
    (exported_lines list table is place m (defined_in m.segment) some (λ d is_in. there (found_at place m d) (in_left own rest (found_at place m d) (in_member place m (defined_in m.segment) d is_in))))
    ∙ ap (λ (l : List ℕ). record_lines (flat_map (export_of list table) own) ++ l) (members_export list table is (place + 1) ms (λ none. omega (arith, none)) (λ f is_in. there f (in_right own rest f is_in)))
    ∙ sym (flat_map-append export_line (flat_map (export_of list table) own) (flat_map (export_of list table) rest))
    ∙ ap record_lines (sym (flat_map-append (export_of list table) own rest))

-- those of all are those of the ENTRY records
members_export_all : (list : List Member) (table : List EquateAnswer) → IsTable list table → numbered_texts (exported_in list table) 1 list ≡ record_lines (exports list table)
unfolding exports entries
members_export_all list table is = members_export list table is 1 list (λ none. omega (arith, none)) (λ f is_in. is_in)

-- ---- what is appended

pub record_line : (r : Record) → record_lines (r ∷ []) ≡ export_line r
record_line r = flat_map-cons export_line r [] ∙ append-nil (export_line r)

-- a program exports nothing
pub program_exports : (list : List Member) (table : List EquateAnswer) (before : List ℕ) → form_in list ≡ Program → before ≡ before ++ exports_text list table
program_exports list table before form = sym (append-nil before) ∙ ap (λ (f : LinkForm). before ++ lines f) (sym form)
  where
    lines : LinkForm → List ℕ
    lines f = elim f [ Program ↦ [] | LibraryForm ↦ record_lines (exports list table) ]

-- a run-time library file what its members do
pub library_exports : (list : List Member) (table : List EquateAnswer) (before text : List ℕ) → form_in list ≡ LibraryForm → IsTable list table → text ≡ before ++ numbered_texts (exported_in list table) 1 list
    → text ≡ before ++ exports_text list table
library_exports list table before text form is drawn =
    drawn ∙ ap (λ (l : List ℕ). before ++ l) (members_export_all list table is) ∙ ap (λ (f : LinkForm). before ++ lines f) (sym form)
  where
    lines : LinkForm → List ℕ
    lines f = elim f [ Program ↦ [] | LibraryForm ↦ record_lines (exports list table) ]
