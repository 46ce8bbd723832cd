-- What a program exports, definition by definition.
use Rattle.std.proofs.Common.{◌≡◌, ℕ, zero, suc, ◌+◌, ◌≤◌, ◌<◌, Bool, true, false, not, eqb, cond, List, [], ◌∷◌, ◌++◌, length, take, Some, None, Result, Ok, Err, refl, sym, ap, subst, ◌∙◌, append_assoc, append-nil, arith}
use Rattle.std.specs.Prelude.{slice_get, option_map, ◌&&◌}
use Rattle.std.specs.List.{flat_map}
use Rattle.std.proofs.lemmas.Bool.{false≢true}
use Rattle.std.proofs.lemmas.List.{length-append}
use Rattle.std.proofs.lemmas.List.Concat.{flat_map-cons}
use Rattle.std.proofs.lemmas.Grind.{flat_map-append}
use Rattle.omf_format.specs.Field.{Layout, IsName, written_layout}
use Rattle.omf_format.specs.Header.{HeaderFields, is_private}
use Rattle.omf_format.specs.Record.{Record, End, Const, LongConst, Align, Org, Space, Reloc, InterSeg, ShortReloc, ShortInterSeg, Super, Using, Strong, Label, Equate, Formula, Entry, IsRecord, spelling}
use Rattle.omf_format.specs.Reading.{Reader}
use Rattle.omf_format.specs.declared.value.Value.{Value}
use Rattle.omf_format.specs.declared.value.ValueFault.{ValueFault}
use Rattle.omf_format.specs.File.{Segment}
use Rattle.link_meaning.specs.Member.{Member, setting_in, form_in}
use Rattle.link_meaning.specs.declared.form.LinkForm.{LinkForm}
use Rattle.link_meaning.specs.declared.form.LinkForm.TheVariants.{Runtime as LibraryForm}
use Rattle.object_meaning.specs.Sizes.{size_at, located_from, place_after}
use Rattle.object_meaning.specs.Defines.{Scope, ForSegment, ForUnit, ForAll, Definition, outer_scope, scope_of, title_of, defined_by, defined_in}
use Rattle.link_meaning.specs.Search.{FoundDefinition, entries_from, entries, outside}
use Rattle.link_program.specs.Outside.{all_found}
use Rattle.link_values.specs.declared.slots.ValueSlot.{ValueSlot}
use Rattle.link_values.specs.Slots.{AreSlots}
use Rattle.link_meaning.specs.Layout.{load_headers}
use Rattle.link_meaning.specs.LinkValues.{EquateAnswer, found_value}
use Rattle.link_meaning.specs.laws.Steps.{if_ok, export_of, exports_for}
use Rattle.link_meaning.specs.LinkWritten.{export_at, exports}
use Rattle.link_tables.specs.Coming.{Coming}
use Rattle.link_program.specs.Linked.{member_at}
use Rattle.link_file.specs.Images.{spelled_records}
use Rattle.link_values.specs.Circulars.{defined_so_far, CountsTo}
use Rattle.link_file.specs.Exported.{is_public, SeenName, IsSeen, DefinesSeen, IsExported, StandsBefore, Exporting, ExportsTo}
use Rattle.link_values.proofs.LocatedLaws.{one_located}
use Rattle.link_values.proofs.CircularLaws.{of_located, so_far-more, so_far-all, get_at, entries-append, member_size, counts_there, segment_is}
use Rattle.link_values.proofs.FileFacts.{parts_there}

-- ---- who sees a name

pub scope_public : (global : Bool) (private : ℕ) → is_public (scope_of global private) ≡ (global && eqb private 0)
scope_public false private = refl
scope_public true private = by_test (eqb private 0)
  where
    by_test : (b : Bool) → is_public (cond b ForAll ForUnit) ≡ b
    by_test true = refl
    by_test false = refl

outer_public : (private : Bool) → is_public (outer_scope private) ≡ not private
outer_public true = refl
outer_public false = refl

-- a segment's name
pub title_named : (s : Segment) (b : Bool) → (s.fields.name ≡ [] → ⊥) → b ≡ not (is_private s.fields.kind) → DefinesSeen (title_of s) (Some (record { name = s.fields.name; public = b }))
unfolding title_of
title_named s b some is = by_name s.fields.name some
  where
    by_name : (name : List ℕ) → (name ≡ [] → ⊥) → DefinesSeen (elim name as (λ n. List Definition) [
      | [] ↦ []
      | c ∷ cs ↦ record { name = c ∷ cs; scope = outer_scope (is_private s.fields.kind); place = 0; at = s.start; expr = None; size = 0; form = 0x4E } ∷ []
    ]) (Some (record { name = name; public = b }))
    by_name [] some = absurd (some refl)
    by_name (c ∷ cs) some = (_, refl, record { name' = refl; public' = outer_public (is_private s.fields.kind) ∙ sym is })

-- ---- what a value exports

pub value_reported : (r : Result Value ValueFault) (v : Value) → Some v ≡ if_ok r → r ≡ Ok v
value_reported (Ok x) v e = let same : v ≡ x = cc in ap ok (sym same)
  where
    ok : Value → Result Value ValueFault
    ok y = Ok y
value_reported (Err fault) v e = absurd cc

pub none_reported : (headers : List HeaderFields) (name : List ℕ) (r : Result Value ValueFault) → None ≡ if_ok r → export_at headers name r ≡ []
none_reported headers name (Ok x) e = absurd cc
none_reported headers name (Err fault) e = refl

pub export_public : (list : List Member) (table : List EquateAnswer) (f : FoundDefinition) → is_public f.definition.scope ≡ true → export_of list table f ≡ export_at (load_headers list) f.definition.name (found_value list table f)
export_public list table f is = by_scope f.definition.scope is
  where
    all : List Record
    all = export_at (load_headers list) f.definition.name (found_value list table f)

    by_scope : (scope : Scope) → is_public scope ≡ true → elim scope as (λ x. List Record) [ ForSegment ↦ [] | ForUnit ↦ [] | ForAll ↦ all ] ≡ all
    by_scope ForSegment e = absurd (false≢true e)
    by_scope ForUnit e = absurd (false≢true e)
    by_scope ForAll e = refl

pub export_other : (list : List Member) (table : List EquateAnswer) (f : FoundDefinition) → is_public f.definition.scope ≡ false → export_of list table f ≡ []
export_other list table f is = by_scope f.definition.scope is
  where
    all : List Record
    all = export_at (load_headers list) f.definition.name (found_value list table f)

    by_scope : (scope : Scope) → is_public scope ≡ false → elim scope as (λ x. List Record) [ ForSegment ↦ [] | ForUnit ↦ [] | ForAll ↦ all ] ≡ []
    by_scope ForSegment e = refl
    by_scope ForUnit e = refl
    by_scope ForAll e = absurd (false≢true (sym e))

-- ---- one definition more

take_next : (xs : List FoundDefinition) (k : ℕ) (x : FoundDefinition) → slice_get xs k ≡ Some x → take (k + 1) xs ≡ take k xs ++ x ∷ []
take_next [] k x e = absurd cc
take_next (y ∷ xs) zero x e = let same : y ≡ x = cc in ap (λ (z : FoundDefinition). z ∷ []) same
take_next (y ∷ xs) (suc k) x e = let next : suc k + 1 ≡ suc (k + 1) = omega arith in ap (λ (n : ℕ). take n (y ∷ xs)) next ∙ ap (λ (l : List FoundDefinition). y ∷ l) (take_next xs k x e)

pub exported_more : (list : List Member) (reported : List EquateAnswer) (number : ℕ) (f : FoundDefinition) (out new : List ℕ) → slice_get (entries list) number ≡ Some f → IsExported list reported number out → new ≡ out ++ spelled_records (export_of list reported f)
    → IsExported list reported (number + 1) new
exported_more list reported number f out new at is more =
    let first = take number (entries list) in
    let own = export_of list reported f in
    let parts : flat_map (export_of list reported) (take (number + 1) (entries list)) ≡ flat_map (export_of list reported) first ++ own =
    ap (flat_map (export_of list reported)) (take_next (entries list) number f at)
    ∙ flat_map-append (export_of list reported) first (f ∷ [])
    ∙ ap (λ (l : List Record). flat_map (export_of list reported) first ++ l) (flat_map-cons (export_of list reported) f [] ∙ append-nil own) in
    more
    ∙ ap (λ (l : List ℕ). l ++ spelled_records own) is
    ∙ sym (flat_map-append (spelling written_layout) (flat_map (export_of list reported) first) own)
    ∙ ap spelled_records (sym parts)

-- ---- definitions of a member

-- the definitions of a segment have their numbers among all
pub number_there : (list : List Member) (s : Segment) (first k : ℕ) (d : Definition) (b : StandsBefore list s first) → slice_get (defined_in s) k ≡ Some d → (f : FoundDefinition) × (slice_get (entries list) (first + k) ≡ Some f) × (f.definition ≡ d)
number_there list s first k d b at =
    let c : CountsTo list (first + k) (length b.front) k = record { front = b.front; back = b.m ∷ b.back; parts = b.parts; place' = refl; count = omega (arith, b.count) } in
    let own : slice_get (defined_in b.m.segment) k ≡ Some d = ap (λ (t : Segment). slice_get (defined_in t) k) b.segment ∙ at in
    (_, counts_there list (first + k) (length b.front) k c b.m b.back d refl own, refl)

-- the first definition after some records
pub next_there : (s : Segment) (done back : List (ℕ × Record)) (found : ℕ × Record) (d : Definition) → s.records ≡ done ++ found ∷ back → defined_by found.0 (place_after 0 done) found.1 ≡ d ∷ []
    → slice_get (defined_in s) (length (defined_so_far s done)) ≡ Some d
next_there s done back found d parts own =
    let loc = place_after 0 done in
    let rest = flat_map of_located (located_from (loc + size_at loc found.1) back) in
    let whole : defined_in s ≡ defined_so_far s done ++ d ∷ rest =
    so_far-all s done (found ∷ back) parts
    ∙ ap (λ (l : List Definition). defined_so_far s done ++ l) (flat_map-cons of_located (one_located found loc) (located_from (loc + size_at loc found.1) back) ∙ ap (λ (l : List Definition). l ++ rest) own) in
    ap (λ (l : List Definition). slice_get l (length (defined_so_far s done))) whole ∙ get_at (defined_so_far s done) rest d (length (defined_so_far s done)) refl

-- the name of a segment is its first definition
pub title_there : (s : Segment) (d : Definition) → title_of s ≡ d ∷ [] → slice_get (defined_in s) 0 ≡ Some d
title_there s d is =
    let rest = flat_map of_located (located_from 0 s.records) in
    ap (λ (l : List Definition). slice_get l 0) (so_far-all s [] s.records refl ∙ append_assoc (title_of s) [] rest ∙ ap (λ (l : List Definition). l ++ rest) is)

-- a definition of a segment has a number of all
number_less : (list : List Member) (number : ℕ) (f : FoundDefinition) → slice_get (entries list) number ≡ Some f → number < length (entries list)
number_less list number f at = within (entries list) number f at
  where
    within : (fs : List FoundDefinition) (k : ℕ) (x : FoundDefinition) → slice_get fs k ≡ Some x → k < length fs
    within [] k x e = absurd cc
    within (y ∷ fs) zero x e = omega arith
    within (y ∷ fs) (suc k) x e = omega (arith, within fs k x e)

-- there is a slot for each
slots_size : (list : List Member) (fs : List FoundDefinition) (slots : List ValueSlot) → AreSlots list fs slots → length slots ≡ length fs
slots_size list [] [] are = refl
slots_size list [] (s ∷ slots) are = absurd are
slots_size list (f ∷ fs) [] are = absurd are
slots_size list (f ∷ fs) (s ∷ slots) are = ap suc (slots_size list fs slots are.1)

pub number_fits : (list : List Member) (slots : List ValueSlot) (number : ℕ) (f : FoundDefinition) → AreSlots list (all_found list) slots → slice_get (entries list) number ≡ Some f → number < length slots
number_fits list slots number f are at = omega (arith, number_less list number f at, slots_size list (all_found list) slots are, length-append (entries list) (outside (setting_in list)))

-- names of records can be those of ENTRY records
pub name_fits : (l : Layout) (r : Record) (d : Definition) (at place : ℕ) → l.lab_len ≤ 255 → IsRecord l r → defined_by at place r ≡ d ∷ [] → IsName 0 d.name
name_fits l End d at place small is e = absurd cc
name_fits l (Const bytes) d at place small is e = absurd cc
name_fits l (LongConst bytes) d at place small is e = absurd cc
name_fits l (Align n) d at place small is e = absurd cc
name_fits l (Org n) d at place small is e = absurd cc
name_fits l (Space n) d at place small is e = absurd cc
name_fits l (Reloc count shift location offset) d at place small is e = absurd cc
name_fits l (InterSeg count shift location file segment offset) d at place small is e = absurd cc
name_fits l (ShortReloc count shift location offset) d at place small is e = absurd cc
name_fits l (ShortInterSeg count shift location segment offset) d at place small is e = absurd cc
name_fits l (Super form bytes) d at place small is e = absurd cc
name_fits l (Using name) d at place small is e = absurd cc
name_fits l (Strong name) d at place small is e = absurd cc
name_fits l (Label global name size form private) d at place small is e = subst (IsName 0) (named _ d e) (short l.lab_len name small is.0)
  where
    named : (x y : Definition) → x ∷ [] ≡ y ∷ [] → x.name ≡ y.name
    named x y e = let same : x ≡ y = cc in ap (λ (z : Definition). z.name) same

    short : (lab_len : ℕ) (text : List ℕ) → lab_len ≤ 255 → IsName lab_len text → IsName 0 text
    short zero text small is = is
    short (suc n) text small is = (is.0, omega (arith, is.1, small))
name_fits l (Equate global name size form private expr) d at place small is e = subst (IsName 0) (named _ d e) (short l.lab_len name small is.0)
  where
    named : (x y : Definition) → x ∷ [] ≡ y ∷ [] → x.name ≡ y.name
    named x y e = let same : x ≡ y = cc in ap (λ (z : Definition). z.name) same

    short : (lab_len : ℕ) (text : List ℕ) → lab_len ≤ 255 → IsName lab_len text → IsName 0 text
    short zero text small is = is
    short (suc n) text small is = (is.0, omega (arith, is.1, small))
name_fits l (Formula code count n expr) d at place small is e = absurd cc
name_fits l (Entry segment offset name) d at place small is e = absurd cc

-- ---- a segment

-- after the name
pub exporting_all : (list : List Member) (reported : List EquateAnswer) (s : Segment) (first number : ℕ) (at : Reader) (out : List ℕ) → Coming at s.records → number ≡ first + length (title_of s) → IsExported list reported number out → Exporting list reported s first number at out
exporting_all list reported s first number at out coming is exported =
    record { done = []; back = s.records; parts = refl; coming = coming; count = omega (arith, is, length-append (title_of s) []); exported = exported }

-- after a record that defines nothing
pub exporting_more : (list : List Member) (reported : List EquateAnswer) (s : Segment) (first number : ℕ) (at after : Reader) (found : ℕ × Record) (more : List (ℕ × Record)) (out : List ℕ) (e : Exporting list reported s first number at out) → e.back ≡ found ∷ more → Coming after more
    → ((loc : ℕ) → DefinesSeen (defined_by found.0 loc found.1) None) → Exporting list reported s first number after out
exporting_more list reported s first number at after found more out e back coming none = record {
  done = e.done ++ found ∷ [];
  back = more;
  parts = e.parts ∙ ap (λ (l : List (ℕ × Record)). e.done ++ l) back ∙ sym (append_assoc e.done (found ∷ []) more);
  coming = coming;
  count = omega (arith, e.count, ap length (so_far-more s e.done found), length-append (defined_so_far s e.done) (defined_by found.0 (place_after 0 e.done) found.1), ap length (none (place_after 0 e.done)));
  exported = e.exported;
}

-- after one that defines a name
pub exporting_named : (list : List Member) (reported : List EquateAnswer) (s : Segment) (first number : ℕ) (at after : Reader) (found : ℕ × Record) (more : List (ℕ × Record)) (seen : SeenName) (out new : List ℕ) (e : Exporting list reported s first number at out) → e.back ≡ found ∷ more
    → Coming after more → ((loc : ℕ) → DefinesSeen (defined_by found.0 loc found.1) (Some seen)) → IsExported list reported (number + 1) new → Exporting list reported s first (number + 1) after new
exporting_named list reported s first number at after found more seen out new e back coming some exported = record {
  done = e.done ++ found ∷ [];
  back = more;
  parts = e.parts ∙ ap (λ (l : List (ℕ × Record)). e.done ++ l) back ∙ sym (append_assoc e.done (found ∷ []) more);
  coming = coming;
  count = omega (arith, e.count, ap length (so_far-more s e.done found), length-append (defined_so_far s e.done) (defined_by found.0 (place_after 0 e.done) found.1), ap length (some (place_after 0 e.done)).1);
  exported = exported;
}

-- the definition that the record has among all
pub exporting_there : (list : List Member) (reported : List EquateAnswer) (s : Segment) (first number : ℕ) (at : Reader) (found : ℕ × Record) (more : List (ℕ × Record)) (seen : SeenName) (out : List ℕ) (e : Exporting list reported s first number at out) → StandsBefore list s first
    → e.back ≡ found ∷ more → ((loc : ℕ) → DefinesSeen (defined_by found.0 loc found.1) (Some seen)) → (f : FoundDefinition) × (slice_get (entries list) number ≡ Some f) × IsSeen f.definition seen
exporting_there list reported s first number at found more seen out e b back some =
    let own = some (place_after 0 e.done) in
    let there = next_there s e.done more found own.0 (e.parts ∙ ap (λ (l : List (ℕ × Record)). e.done ++ l) back) own.1 in
    let f = number_there list s first (length (defined_so_far s e.done)) own.0 b there in
    (f.0, ap (slice_get (entries list)) e.count ∙ f.1, subst (λ (d : Definition). IsSeen d seen) (sym f.2) own.2)

-- after the last
pub exporting_end : (list : List Member) (reported : List EquateAnswer) (s : Segment) (first number : ℕ) (at : Reader) (out : List ℕ) (e : Exporting list reported s first number at out) → e.back ≡ [] → number ≡ first + length (defined_in s)
exporting_end list reported s first number at out e none =
    let whole = so_far-all s e.done [] (e.parts ∙ ap (λ (l : List (ℕ × Record)). e.done ++ l) none) in
    omega (arith, e.count, ap length whole, length-append (defined_so_far s e.done) [])

-- the segment's name among all
pub title_number : (list : List Member) (s : Segment) (first : ℕ) (seen : SeenName) → StandsBefore list s first → DefinesSeen (title_of s) (Some seen) → (f : FoundDefinition) × (slice_get (entries list) first ≡ Some f) × IsSeen f.definition seen
title_number list s first seen b own =
    let f = number_there list s first 0 own.0 b (title_there s own.0 own.1) in
    let same : first ≡ first + 0 = omega arith in
    (f.0, ap (slice_get (entries list)) same ∙ f.1, subst (λ (d : Definition). IsSeen d seen) (sym f.2) own.2)

-- ---- members

pub exports_none : (list : List Member) (reported : List EquateAnswer) → ExportsTo list reported 0 0 []
exports_none list reported = record { front = []; back = list; parts = refl; place' = refl; count = refl; exported = refl }

next_of : (list : List Member) (reported : List EquateAnswer) (place number : ℕ) (out : List ℕ) (e : ExportsTo list reported place number out) → place < length list → (m : Member) × (back : List Member) × (e.back ≡ m ∷ back)
next_of list reported place number out e less = some e.back (omega (arith, ap length e.parts, length-append e.front e.back, e.place', less))
  where
    some : (l : List Member) → 0 < length l → (m : Member) × (back : List Member) × (l ≡ m ∷ back)
    some [] lt = absurd (omega (arith, lt))
    some (m ∷ back) lt = (m, back, refl)

module _ (list : List Member) (reported : List EquateAnswer) (place number : ℕ) (out : List ℕ) (e : ExportsTo list reported place number out) (less : place < length list) where
  next : (m : Member) × (back : List Member) × (e.back ≡ m ∷ back)
  next = next_of list reported place number out e less

  parts : list ≡ e.front ++ next.0 ∷ next.1
  parts = e.parts ∙ ap (λ (l : List Member). e.front ++ l) next.2

  there : member_at list (place + 1) ≡ Some next.0
  there = ap (λ (n : ℕ). member_at list (n + 1)) e.place' ∙ parts_there list e.front next.0 next.1 parts

  pub stands_before : (s : Segment) → Some s ≡ option_map (λ (o : Member). o.segment) (member_at list (place + 1)) → StandsBefore list s number
  stands_before s is = record {
    front = e.front;
    m = next.0;
    back = next.1;
    parts = parts;
    segment = sym (segment_is list (place + 1) next.0 s there is);
    count = e.count;
  }

  pub exports_more : (s : Segment) (last : ℕ) (new : List ℕ) → Some s ≡ option_map (λ (o : Member). o.segment) (member_at list (place + 1)) → last ≡ number + length (defined_in s) → IsExported list reported last new → ExportsTo list reported (place + 1) last new
  exports_more s last new is size exported =
      let same = segment_is list (place + 1) next.0 s there is in
      record {
        front = e.front ++ next.0 ∷ [];
        back = next.1;
        parts = parts ∙ sym (append_assoc e.front (next.0 ∷ []) next.1);
        place' = omega (arith, e.place', length-append e.front (next.0 ∷ []));
        count = omega (arith, e.count, size, ap (λ (t : Segment). length (defined_in t)) same, ap length (entries-append 1 e.front (next.0 ∷ [])), length-append (entries_from defined_in 1 e.front) (entries_from defined_in (1 + length e.front) (next.0 ∷ [])), member_size (1 + length e.front) next.0);
        exported = exported;
      }

-- after the last member
pub exports_all : (list : List Member) (reported : List EquateAnswer) (place number : ℕ) (out : List ℕ) → ExportsTo list reported place number out → length list ≤ place → form_in list ≡ LibraryForm → out ≡ spelled_records (exports_for (form_in list) 1 (exports list reported))
unfolding exports entries
exports_all list reported place number out e past form =
    let none : e.back ≡ [] = empty e.back (omega (arith, ap length e.parts, length-append e.front e.back, e.place', past)) in
    let whole : list ≡ e.front = e.parts ∙ ap (λ (l : List Member). e.front ++ l) none ∙ append-nil e.front in
    let size : number ≡ length (entries_from defined_in 1 list) = e.count ∙ ap (λ (l : List Member). length (entries_from defined_in 1 l)) (sym whole) in
    e.exported
    ∙ ap (λ (l : List FoundDefinition). spelled_records (flat_map (export_of list reported) l)) (all (entries_from defined_in 1 list) number size)
    ∙ ap (λ (f : LinkForm). spelled_records (exports_for f 1 (flat_map (export_of list reported) (entries_from defined_in 1 list)))) (sym form)
  where
    empty : (l : List Member) → length l ≡ 0 → l ≡ []
    empty [] e = refl
    empty (x ∷ l) e = absurd (omega (arith, e))

    all : (fs : List FoundDefinition) (n : ℕ) → n ≡ length fs → take n fs ≡ fs
    all [] zero is = refl
    all [] (suc n) is = refl
    all (f ∷ fs) zero is = absurd (omega (arith, is))
    all (f ∷ fs) (suc n) is = ap (λ (l : List FoundDefinition). f ∷ l) (all fs n (omega (arith, is)))
