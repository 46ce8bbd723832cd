-- Equates of one member whose records have one displacement are one.
use Rattle.std.proofs.Common.{◌≡◌, inl, inr, ℕ, ◌+◌, ◌≤◌, Bool, true, false, cond, List, [], ◌∷◌, ◌++◌, length, map, Option, Some, None, Result, Ok, Err, refl, sym, ap, subst, ◌∙◌, arith}
use Rattle.std.specs.List.{flat_map}
use Rattle.std.specs.Prelude.{take}
use Rattle.std.proofs.lemmas.List.{length-append, length-drop, length-take}
use Rattle.std.proofs.lemmas.List.Concat.{flat_map-cons}
use Rattle.omf_format.specs.declared.fault.Flaw.{Flaw}
use Rattle.omf_format.specs.declared.fault.RecordFault.{RecordFault}
use Rattle.omf_format.specs.Number.{IsBytes}
use Rattle.omf_format.specs.Header.{is_private}
use Rattle.omf_format.specs.Record.{Record, End, Const, LongConst, Align, Org, Space, Reloc, InterSeg, ShortReloc, ShortInterSeg, Super, Using, Strong, Label, Equate, Formula, Entry, spelling}
use Rattle.omf_format.specs.laws.RecordLaws.{front-takes}
use Rattle.omf_format.specs.Reading.{Reader, first_record, next_answer, after_next, HandsOut}
use Rattle.omf_format.specs.laws.Steps.{answer_of_reader, place_of}
use Rattle.omf_format.specs.laws.BodyLaws.{found_by, spelling-some, body_fits}
use Rattle.omf_format.specs.File.{Segment, body_reader}
use Rattle.omf_format.specs.laws.FileLaws.{header_lies}
use Rattle.link_meaning.specs.First.{IsIn}
use Rattle.link_meaning.specs.laws.FirstLaws.{Parted, Same, Sooner, Later, parted}
use Rattle.link_meaning.specs.laws.MemberLists.{in_filter}
use Rattle.object_meaning.specs.Sizes.{Located, size_at, located_from, records_with_offsets}
use Rattle.link_meaning.specs.Member.{Member}
use Rattle.object_meaning.specs.Defines.{Definition, outer_scope, title_of, defined_by, defined_in}
use Rattle.link_meaning.specs.Search.{FoundDefinition, entries_from, entries}
use Rattle.link_meaning.specs.Cycles.{is_equate, equates}
use Rattle.link_meaning.specs.laws.Steps.{has_expr}
use Rattle.link_meaning.specs.LinkFaults.{LinkInput, HasBytes, IsResolved}
use Rattle.link_meaning.specs.laws.ReadMembers.{IsRead, members_read}
use Rattle.link_meaning.specs.laws.PlaceFits.{IsPlaceIn, in-append, of_located, own_entry, entry_there}
use Rattle.link_meaning.specs.EquateValues.{AreApart, TableOfValues}
use Rattle.link_meaning.specs.laws.EquateValueLaws.{are_table, report_values}

-- ---- displacements rise

abbrev pub Rising : ℕ → List (ℕ × Record) → Type 0
Rising low [] = Unit {0}
Rising low (found ∷ founds) = (low ≤ found.0) × Rising (found.0 + 1) founds

lower : (low at : ℕ) (founds : List (ℕ × Record)) → low ≤ at → Rising at founds → Rising low founds
lower low at [] le rising = tt
lower low at (found ∷ founds) le rising = (omega (arith, le, rising.0), rising.1)

abbrev nothing : Result (Option (ℕ × Record)) RecordFault
nothing = Ok None

-- a record is returned with its place
place_is : (r : Reader) (found : ℕ × Record) → next_answer r ≡ Ok (Some found) → found.0 ≡ place_of r
unfolding next_answer
place_is r found e = by_end r.ended e
  where
    by_answer : (answer : Result (Record × List ℕ) Flaw) → answer_of_reader r answer ≡ Ok (Some found) → found.0 ≡ place_of r
    by_answer (Ok f) e = let same : place_of r ≡ found.0 = cc in sym same
    by_answer (Err flaw) e = absurd cc

    by_end : (b : Bool) → cond b nothing (answer_of_reader r (first_record r.layout r.left)) ≡ Ok (Some found) → found.0 ≡ place_of r
    by_end true e = absurd cc
    by_end false e = by_answer (first_record r.layout r.left) e

-- the segment's end stays
end_is : (r : Reader) → (after_next r).end ≡ r.end
unfolding after_next
end_is r = by_end r.ended (first_record r.layout r.left)
  where
    by_answer : (answer : Result (Record × List ℕ) Flaw) → (Rattle.omf_format.specs.laws.Steps.reader_after r answer).end ≡ r.end
    by_answer (Ok f) = refl
    by_answer (Err flaw) = refl

    by_end : (b : Bool) (answer : Result (Record × List ℕ) Flaw) → (cond b r (Rattle.omf_format.specs.laws.Steps.reader_after r answer)).end ≡ r.end
    by_end true answer = refl
    by_end false answer = by_answer answer

rising : (r last : Reader) (founds : List (ℕ × Record)) → IsBytes r.left → length r.left ≤ r.end → HandsOut r founds last → Rising (place_of r) founds
rising r last [] fits within run = tt
rising r last (found ∷ founds) fits within run =
    let f = found_by r found run.0 in
    let takes = front-takes r.layout r.left (found.1, f.rest) fits f.front' in
    let place = place_is r found run.0 in
    let end = end_is r in
    let size : length r.left ≡ length (spelling r.layout found.1) + length f.rest = ap length takes.taken.parts ∙ length-append (spelling r.layout found.1) f.rest in
    let left : length (after_next r).left ≡ length f.rest = ap length f.left in
    let some = spelling-some r.layout found.1 in
    let rest_fits : IsBytes (after_next r).left = subst IsBytes (sym f.left) takes.taken.rest_fits in
    let more = rising (after_next r) last founds rest_fits (omega (arith, end, left, size, within)) run.1 in
    (omega (arith, place), lower (found.0 + 1) (place_of (after_next r)) founds (omega (arith, place, end, left, size, some, within)) more)

-- so they do in a segment that was read
pub read_rising : (s : Segment) → IsRead s → Rising 0 s.records
unfolding body_reader
read_rising s read =
    let r = body_reader s.start s.fields read.file in
    let lies = header_lies s.start s.fields read.file read.is.header in
    let end = s.start + s.fields.byte_count in
    let short : length r.left ≤ r.end =
    omega (arith, length-drop (s.start + s.fields.disp_data) (take end read.file), length-take end read.file) in
    lower 0 (place_of r) s.records (omega arith) (rising r read.is.last s.records (body_fits s.start s.fields read.file read.bytes) short read.is.records)

-- ---- one record at a displacement

above : (low loc : ℕ) (founds : List (ℕ × Record)) (r : Located) → Rising low founds → IsIn (located_from loc founds) r → low ≤ r.at
above low loc [] r rising is = absurd is
above low loc (found ∷ founds) r rising (inl e) = subst (λ (x : Located). low ≤ x.at) e rising.0
above low loc (found ∷ founds) r rising (inr more) = omega (arith, rising.0, above (found.0 + 1) (loc + size_at loc found.1) founds r rising.1 more)

one_located : (low loc : ℕ) (founds : List (ℕ × Record)) (r t : Located) → Rising low founds → IsIn (located_from loc founds) r → IsIn (located_from loc founds) t → r.at ≡ t.at → r ≡ t
one_located low loc [] r t rising is other same = absurd is
one_located low loc (found ∷ founds) r t rising (inl e) (inl f) same = sym e ∙ f
one_located low loc (found ∷ founds) r t rising (inl e) (inr f) same =
    absurd (omega (arith, ap (λ (x : Located). x.at) e, same, above (found.0 + 1) (loc + size_at loc found.1) founds t rising.1 f))
one_located low loc (found ∷ founds) r t rising (inr e) (inl f) same =
    absurd (omega (arith, ap (λ (x : Located). x.at) f, same, above (found.0 + 1) (loc + size_at loc found.1) founds r rising.1 e))
one_located low loc (found ∷ founds) r t rising (inr e) (inr f) same = one_located (found.0 + 1) (loc + size_at loc found.1) founds r t rising.1 e f same

-- ---- one definition of a record

-- what a record defines is at its displacement, and is all that it defines
record IsOnly (at place : ℕ) (r : Record) (d : Definition) : Type 0 where
  at' : d.at ≡ at
  only : defined_by at place r ≡ d ∷ []

is_only : (at place : ℕ) (r : Record) (d : Definition) → IsIn (defined_by at place r) d → IsOnly at place r d
is_only at place End d is = absurd is
is_only at place (Const bytes) d is = absurd is
is_only at place (LongConst bytes) d is = absurd is
is_only at place (Align n) d is = absurd is
is_only at place (Org n) d is = absurd is
is_only at place (Space n) d is = absurd is
is_only at place (Reloc count shift location offset) d is = absurd is
is_only at place (InterSeg count shift location file segment offset) d is = absurd is
is_only at place (ShortReloc count shift location offset) d is = absurd is
is_only at place (ShortInterSeg count shift location segment offset) d is = absurd is
is_only at place (Super form bytes) d is = absurd is
is_only at place (Using name) d is = absurd is
is_only at place (Strong name) d is = absurd is
is_only at place (Label global name size form private) d (inl e) = record { at' = ap (λ (x : Definition). x.at) (sym e); only = ap (λ (x : Definition). x ∷ []) e }
is_only at place (Label global name size form private) d (inr more) = absurd more
is_only at place (Equate global name size form private expr) d (inl e) = record { at' = ap (λ (x : Definition). x.at) (sym e); only = ap (λ (x : Definition). x ∷ []) e }
is_only at place (Equate global name size form private expr) d (inr more) = absurd more
is_only at place (Formula code count n expr) d is = absurd is
is_only at place (Entry segment offset name) d is = absurd is

pub in_records : (loc : ℕ) (founds : List (ℕ × Record)) (d : Definition) → IsIn (flat_map of_located (located_from loc founds)) d
    → (r : Located) × IsIn (located_from loc founds) r × IsIn (of_located r) d
in_records loc [] d is = absurd is
in_records loc (found ∷ founds) d is =
    let r : Located = record { at = found.0; location = loc; content = found.1 } in
    let more = located_from (loc + size_at loc found.1) founds in
    elim (in-append (of_located r) (flat_map of_located more) d (subst (λ (l : List Definition). IsIn l d) (flat_map-cons of_located r more) is)) [
      | inl h ↦ (r, inl refl, h)
      | inr h ↦ let rest = in_records (loc + size_at loc found.1) founds d h in (rest.0, inr rest.1, rest.2)
    ]

pub title_none : (s : Segment) (d : Definition) → IsIn (title_of s) d → has_expr d.expr ≡ false
unfolding title_of
title_none s d is = by_name s.fields.name is
  where
    by_name : (name : List ℕ) → IsIn (elim name as (λ n. List Definition) [
      | [] ↦ []
      | b ∷ bs ↦ record { name = b ∷ bs; scope = outer_scope (is_private s.fields.kind); place = 0; at = s.start; expr = None; size = 0; form = 0x4E } ∷ []
    ]) d → has_expr d.expr ≡ false
    by_name [] is = absurd is
    by_name (b ∷ bs) (inl e) = ap (λ (x : Definition). has_expr x.expr) (sym e)
    by_name (b ∷ bs) (inr more) = absurd more

true_false : true ≡ false → ⊥
true_false e = cc

pub of_record : (s : Segment) (d : Definition) → IsIn (defined_in s) d → has_expr d.expr ≡ true → IsIn (flat_map of_located (located_from 0 s.records)) d
unfolding defined_in records_with_offsets
of_record s d is equate = elim (in-append (title_of s) (flat_map of_located (located_from 0 s.records)) d is) [
  | inl h ↦ absurd (true_false (sym equate ∙ title_none s d h))
  | inr h ↦ h
]

one_in : (d e : Definition) → d ∷ [] ≡ e ∷ [] → d ≡ e
one_in d e same = cc

one_definition : (s : Segment) (d e : Definition) → Rising 0 s.records → IsIn (defined_in s) d → IsIn (defined_in s) e → has_expr d.expr ≡ true → has_expr e.expr ≡ true → d.at ≡ e.at → d ≡ e
one_definition s d e rising is other p q same =
    let x = in_records 0 s.records d (of_record s d is p) in
    let y = in_records 0 s.records e (of_record s e other q) in
    let xd = is_only x.0.at x.0.location x.0.content d x.2 in
    let ye = is_only y.0.at y.0.location y.0.content e y.2 in
    let r : x.0 ≡ y.0 = one_located 0 0 s.records x.0 y.0 rising x.1 y.1 (sym xd.at' ∙ same ∙ ye.at') in
    one_in d e (sym xd.only ∙ ap of_located r ∙ ye.only)

-- ---- one entry

defined_there : (place : ℕ) (ms : List Member) (f : FoundDefinition) → IsIn (entries_from defined_in place ms) f → IsIn (defined_in f.member.segment) f.definition
defined_there place [] f is = absurd is
defined_there place (m ∷ ms) f is = elim (in-append (map (λ (d : Definition). record { place = place; member = m; definition = d }) (defined_in m.segment)) (entries_from defined_in (place + 1) ms) f is) [
  | inl h ↦ let own = own_entry place m (defined_in m.segment) f h in subst (λ (o : Member). IsIn (defined_in o.segment) f.definition) (sym own.1) own.2
  | inr h ↦ defined_there (place + 1) ms f h
]

pub in_entries_is : (list : List Member) (f : FoundDefinition) → IsIn (entries list) f → IsIn (defined_in f.member.segment) f.definition
unfolding entries
in_entries_is list f is = defined_there 1 list f is

one_member : (list : List Member) (e f : FoundDefinition) (at to : ℕ) → IsPlaceIn list e.place e.member at → IsPlaceIn list f.place f.member to → e.place ≡ f.place → e.member ≡ f.member
one_member list e f at to p q same = settle (parted p.front e.member p.back q.front f.member q.back (sym p.parts ∙ q.parts))
  where
    settle : Parted p.front e.member q.front f.member → e.member ≡ f.member
    settle (Same b i) = i
    settle (Sooner rest more) = absurd (omega (arith, p.number, q.number, same, ap length more, length-append p.front (e.member ∷ rest)))
    settle (Later rest more) = absurd (omega (arith, p.number, q.number, same, ap length more, length-append q.front (f.member ∷ rest)))

found_of : ℕ → Member → Definition → FoundDefinition
found_of place member definition = record { place = place; member = member; definition = definition }

pub passes_filter : {A : Type 0} → (p : A → Bool) (xs : List A) (x : A) → IsIn (Rattle.std.specs.Prelude.filter p xs) x → p x ≡ true
passes_filter p [] x is = absurd is
passes_filter {A} p (y ∷ ys) x is = by_test (p y) refl is (λ more. passes_filter p ys x more)
  where
    by_test : (b : Bool) → p y ≡ b → IsIn (cond b (y ∷ Rattle.std.specs.Prelude.filter p ys) (Rattle.std.specs.Prelude.filter p ys)) x → (IsIn (Rattle.std.specs.Prelude.filter p ys) x → p x ≡ true) → p x ≡ true
    by_test true e (inl same) go = ap p (sym same) ∙ e
    by_test true e (inr more) go = go more
    by_test false e more go = go more

pub apart : (files : LinkInput) (list : List Member) → HasBytes files → IsResolved files list → AreApart (equates list)
unfolding equates found_of
apart files list bytes resolved e f is other place at =
    let p = in_filter is_equate (entries list) e is in
    let q = in_filter is_equate (entries list) f other in
    let pe = entry_there list e p in
    let pf = entry_there list f q in
    let member : e.member ≡ f.member = one_member list e f e.definition.place f.definition.place pe pf place in
    let read = members_read files list f.member bytes resolved.program (there_in list pf) in
    let definition : e.definition ≡ f.definition =
    one_definition f.member.segment e.definition f.definition (read_rising f.member.segment read)
    (subst (λ (m : Member). IsIn (defined_in m.segment) e.definition) member (in_entries_is list e p)) (in_entries_is list f q)
    (passes_filter is_equate (entries list) e is) (passes_filter is_equate (entries list) f other) at in
    ap (λ (n : ℕ). found_of n e.member e.definition) place ∙ ap (λ (m : Member). found_of f.place m e.definition) member ∙ ap (found_of f.place f.member) definition
  where
    there_in : (list : List Member) → IsPlaceIn list f.place f.member f.definition.place → IsIn list f.member
    there_in list p = subst (λ (l : List Member). IsIn l f.member) (sym p.parts) (following p.front)
      where
        following : (front : List Member) → IsIn (front ++ f.member ∷ p.back) f.member
        following [] = inl refl
        following (o ∷ front) = inr (following front)

-- The table of resolved files gives each equate its value, and nothing else does.
pub table_of_values : TableOfValues
table_of_values files list table bytes resolved = (λ reveal. are_table list table reveal (apart files list bytes resolved), report_values list table)
