-- The rows of a segment, record by record.
use Rattle.std.proofs.Common.{◌≡◌, ◌≤◌, ℕ, zero, suc, ◌+◌, Bool, true, false, List, [], ◌∷◌, ◌++◌, length, map, Option, Some, None, Result, Ok, Err, OnOk, refl, sym, ap, ◌∙◌, arith}
use Rattle.std.specs.Prelude.{not, if◌then◌else◌, ◌==◌}
use Rattle.std.specs.List.{filter_map, flat_map, cons_option}
use Rattle.std.proofs.lemmas.List.{map-append, append-nil}
use Rattle.std.proofs.lemmas.List.Concat.{flat_map-cons}
use Rattle.std.proofs.lemmas.List.Elements.{filter_map-append}
use Rattle.omf_format.specs.Field.{Layout, IsName}
use Rattle.omf_format.specs.Header.{HeaderFields, is_private}
use Rattle.omf_format.specs.Record.{Record, End, Const, LongConst, Align, Org, Space, Reloc, InterSeg, ShortReloc, ShortInterSeg, Super, Using, Strong, Label, Equate, Formula, Entry, IsRecord}
use Rattle.omf_format.specs.File.{Segment, body_reader}
use Rattle.object_meaning.specs.Sizes.{size_at, located_from, records_with_offsets, Located}
use Rattle.object_meaning.specs.Defines.{ForUnit, ForAll, Definition, scope_of, outer_scope, title_of, defined_by, defined_in}
use Rattle.lib_dict.specs.Library.{segment_rows}
use Rattle.lib_dict.specs.Steps.{outer_name, name_in, outer_names}
use Rattle.lib_dict.specs.View.{outer_of, row_of_name, record_rows}

abbrev name_of : ℕ × Record → Option (List ℕ × Bool)
name_of found = outer_of found.1

-- a record more, which defines a name for others
pub rows-push_some : (file at : ℕ) (before : List (ℕ × Record)) (found : ℕ × Record) (n : List ℕ × Bool) → Some n ≡ outer_of found.1
    → record_rows file at before ++ row_of_name file at n ∷ [] ≡ record_rows file at (before ++ found ∷ [])
rows-push_some file at before found n is =
    let one : filter_map name_of (found ∷ []) ≡ n ∷ [] = ap (λ (o : Option (List ℕ × Bool)). cons_option o []) (sym is) in
    let all : filter_map name_of (before ++ found ∷ []) ≡ filter_map name_of before ++ n ∷ [] = filter_map-append name_of before (found ∷ []) ∙ ap (λ l. filter_map name_of before ++ l) one in
    sym (ap (map (row_of_name file at)) all ∙ map-append (row_of_name file at) (filter_map name_of before) (n ∷ []))

-- a record more, which doesn't
pub rows-push_none : (file at : ℕ) (before : List (ℕ × Record)) (found : ℕ × Record) → None ≡ outer_of found.1
    → record_rows file at before ≡ record_rows file at (before ++ found ∷ [])
rows-push_none file at before found is =
    let one : filter_map name_of (found ∷ []) ≡ [] = ap (λ (o : Option (List ℕ × Bool)). cons_option o []) (sym is) in
    let all : filter_map name_of (before ++ found ∷ []) ≡ filter_map name_of before ++ [] = filter_map-append name_of before (found ∷ []) ∙ ap (λ l. filter_map name_of before ++ l) one in
    sym (ap (map (row_of_name file at)) (all ∙ append-nil (filter_map name_of before)))

-- ---- a segment's names

abbrev names_in : List Definition → List (List ℕ × Bool)
names_in ds = filter_map outer_name ds

scope_name : (name : List ℕ) (global : Bool) (private : ℕ) → name_in (scope_of global private) name ≡ (if global then Some (name, not (private == 0)) else None)
scope_name name false private = refl
scope_name name true private = by_flag (private == 0)
  where
    by_flag : (b : Bool) → name_in (if b then ForAll else ForUnit) name ≡ Some (name, not b)
    by_flag true = refl
    by_flag false = refl

-- what a record defines for others
names-record : (at place : ℕ) (r : Record) → names_in (defined_by at place r) ≡ cons_option (outer_of r) []
names-record at place End = refl
names-record at place (Const bytes) = refl
names-record at place (LongConst bytes) = refl
names-record at place (Align n) = refl
names-record at place (Org n) = refl
names-record at place (Space n) = refl
names-record at place (Reloc count shift location offset) = refl
names-record at place (InterSeg count shift location file segment offset) = refl
names-record at place (ShortReloc count shift location offset) = refl
names-record at place (ShortInterSeg count shift location segment offset) = refl
names-record at place (Super form bytes) = refl
names-record at place (Using name) = refl
names-record at place (Strong name) = refl
names-record at place (Label global name size form private) = ap (λ (o : Option (List ℕ × Bool)). cons_option o []) (scope_name name global private)
names-record at place (Equate global name size form private expr) = ap (λ (o : Option (List ℕ × Bool)). cons_option o []) (scope_name name global private)
names-record at place (Formula code count n expr) = refl
names-record at place (Entry segment offset name) = refl

abbrev defines : Located → List Definition
defines r = defined_by r.at r.location r.content

cons_more : {A : Type 0} (o : Option A) (xs : List A) → cons_option o [] ++ xs ≡ cons_option o xs
cons_more None xs = refl
cons_more (Some x) xs = refl

-- where the records are in the segment doesn't matter for their names
names-located : (place : ℕ) (founds : List (ℕ × Record)) → names_in (flat_map defines (located_from place founds)) ≡ filter_map name_of founds
names-located place [] = refl
names-located place (found ∷ founds) =
    let rest = located_from (place + size_at place found.1) founds in
    let first : Located = record { at = found.0; location = place; content = found.1 } in
    ap names_in (flat_map-cons defines first rest)
    ∙ filter_map-append outer_name (defines first) (flat_map defines rest)
    ∙ ap (λ l. l ++ names_in (flat_map defines rest)) (names-record found.0 place found.1)
    ∙ ap (λ l. cons_option (outer_of found.1) [] ++ l) (names-located (place + size_at place found.1) founds)
    ∙ cons_more (outer_of found.1) (filter_map name_of founds)

-- its SEGNAME, and then the names of its records
pub names-parts : (s : Segment) → outer_names s ≡ names_in (title_of s) ++ filter_map name_of s.records
unfolding defined_in records_with_offsets
names-parts s =
    filter_map-append outer_name (title_of s) (flat_map defines (located_from 0 s.records))
    ∙ ap (λ l. names_in (title_of s) ++ l) (names-located 0 s.records)

scope_title : (name : List ℕ) (private : Bool) → name_in (outer_scope private) name ≡ Some (name, private)
scope_title name true = refl
scope_title name false = refl

-- the rows of a segment without a SEGNAME
pub rows-untitled : (file front : ℕ) (s : Segment) → s.fields.name ≡ [] → record_rows file (front + s.start) s.records ≡ segment_rows file front s
unfolding title_of
rows-untitled file front s none =
    let title : names_in (title_of s) ≡ [] = ap (λ (name : List ℕ). names_in (title_of (record s { fields = record s.fields { name = name } }))) none in
    let all : outer_names s ≡ filter_map name_of s.records = names-parts s ∙ ap (λ l. l ++ filter_map name_of s.records) title in
    sym (ap (map (row_of_name file (front + s.start))) all)

-- and with one
pub rows-titled : (file front : ℕ) (s : Segment) → (s.fields.name ≡ [] → ⊥)
    → row_of_name file (front + s.start) (s.fields.name, is_private s.fields.kind) ∷ record_rows file (front + s.start) s.records ≡ segment_rows file front s
unfolding title_of
rows-titled file front s some =
    let title : names_in (title_of s) ≡ (s.fields.name, is_private s.fields.kind) ∷ [] = by_name s.fields.name some in
    let all : outer_names s ≡ (s.fields.name, is_private s.fields.kind) ∷ filter_map name_of s.records = names-parts s ∙ ap (λ l. l ++ filter_map name_of s.records) title in
    sym (ap (map (row_of_name file (front + s.start))) all)
  where
    with_name : List ℕ → Segment
    with_name name = record s { fields = record s.fields { name = name } }

    by_name : (name : List ℕ) → (name ≡ [] → ⊥) → names_in (title_of (with_name name)) ≡ (name, is_private s.fields.kind) ∷ []
    by_name [] some = absurd (some refl)
    by_name (b ∷ bs) some = ap (λ (o : Option (List ℕ × Bool)). cons_option o []) (scope_title (b ∷ bs) (is_private s.fields.kind))

-- what holds where a call was Ok, and what follows from it
pub on_ok : {X E : Type 0} {P Q : Type 0} (r : Result X E) → OnOk r P → (P → Q) → OnOk r Q
on_ok (Ok x) p f = f p
on_ok (Err e) p f = tt

-- the rows of a segment without a SEGNAME, as they are put
pub put_untitled : (file front at : ℕ) (s : Segment) (founds : List (ℕ × Record)) → length s.fields.name ≡ 0 → at ≡ front + s.start → founds ≡ s.records
    → record_rows file at founds ≡ segment_rows file front s
put_untitled file front at s founds none place same =
    ap (λ (n : ℕ). record_rows file n founds) place ∙ ap (record_rows file (front + s.start)) same ∙ rows-untitled file front s (nil_of s.fields.name none)
  where
    nil_of : (xs : List ℕ) → length xs ≡ 0 → xs ≡ []
    nil_of [] e = refl
    nil_of (x ∷ xs) e = absurd (omega arith)

-- and with one
pub put_titled : (file front at : ℕ) (s : Segment) (founds : List (ℕ × Record)) (name : List ℕ) (private : Bool) → (length s.fields.name ≡ 0 → ⊥) → at ≡ front + s.start → founds ≡ s.records
    → name ≡ s.fields.name → private ≡ is_private s.fields.kind → row_of_name file at (name, private) ∷ record_rows file at founds ≡ segment_rows file front s
put_titled file front at s founds name private some place same named flag =
    ap (λ (n : ℕ). row_of_name file n (name, private) ∷ record_rows file n founds) place
    ∙ ap (λ (l : List (ℕ × Record)). row_of_name file (front + s.start) (name, private) ∷ record_rows file (front + s.start) l) same
    ∙ ap (λ (l : List ℕ). row_of_name file (front + s.start) (l, private) ∷ record_rows file (front + s.start) s.records) named
    ∙ ap (λ (b : Bool). row_of_name file (front + s.start) (s.fields.name, b) ∷ record_rows file (front + s.start) s.records) flag
    ∙ rows-titled file front s (λ e. some (ap length e))

-- ---- names are short

name_short : (lab_len : ℕ) (name : List ℕ) → lab_len ≤ 255 → IsName lab_len name → length name ≤ 255
name_short zero name few is = is.1
name_short (suc n) name few is = omega (arith, is.1)

abbrev some_name : List ℕ × Bool → Option (List ℕ × Bool)
some_name n = Some n

short_of : (global : Bool) (name : List ℕ) (private : Bool) (n : List ℕ × Bool) → some_name n ≡ (if global then Some (name, private) else None) → length name ≤ 255 → length n.0 ≤ 255
short_of true name private n is short = let same : n ≡ (name, private) = cc in omega (arith, ap (λ (m : List ℕ × Bool). length m.0) same)
short_of false name private n is short = absurd cc

-- a name of a record that is read has at most 255 bytes
pub outer_short : (l : Layout) (r : Record) (n : List ℕ × Bool) → IsRecord l r → l.lab_len ≤ 255 → Some n ≡ outer_of r → length n.0 ≤ 255
outer_short l (Label global name size form private) n is few found = short_of global name (not (private == 0)) n found (name_short l.lab_len name few is.0)
outer_short l (Equate global name size form private expr) n is few found = short_of global name (not (private == 0)) n found (name_short l.lab_len name few is.0)
outer_short l End n is few found = absurd cc
outer_short l (Const bytes) n is few found = absurd cc
outer_short l (LongConst bytes) n is few found = absurd cc
outer_short l (Align k) n is few found = absurd cc
outer_short l (Org k) n is few found = absurd cc
outer_short l (Space k) n is few found = absurd cc
outer_short l (Reloc count shift location offset) n is few found = absurd cc
outer_short l (InterSeg count shift location file segment offset) n is few found = absurd cc
outer_short l (ShortReloc count shift location offset) n is few found = absurd cc
outer_short l (ShortInterSeg count shift location segment offset) n is few found = absurd cc
outer_short l (Super form bytes) n is few found = absurd cc
outer_short l (Using name) n is few found = absurd cc
outer_short l (Strong name) n is few found = absurd cc
outer_short l (Formula code count k expr) n is few found = absurd cc
outer_short l (Entry segment offset name) n is few found = absurd cc

-- LABLEN of a body's reader is the header's
pub lab_len-reader : (start : ℕ) (f : HeaderFields) (file : List ℕ) → (body_reader start f file).layout.lab_len ≡ f.lab_len
unfolding body_reader
lab_len-reader start f file = refl
