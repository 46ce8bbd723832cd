-- Places of a resolved list fit patch records: numbers of load segments are small, and so are offsets in them.
use Rattle.std.proofs.Common.{◌≡◌, ℕ, ◌+◌, ◌-◌, ◌^◌, ◌<◌, ◌≤◌, Bool, true, false, not, List, [], ◌∷◌, ◌++◌, length, map, take, None, refl, sym, ap, subst, ◌∙◌, append_assoc, arith, inl, inr}
use Rattle.std.specs.Prelude.{◌⊎◌, cond}
use Rattle.std.specs.List.{flat_map, AllByRecursion}
use Rattle.std.specs.Str.{bytes_eq}
use Rattle.std.proofs.lemmas.Bool.{cases_Bool}
use Rattle.std.proofs.lemmas.List.{take_at, length-append}
use Rattle.std.proofs.lemmas.List.Concat.{flat_map-cons}
use Rattle.std.proofs.lemmas.Slice.Eq.{bytes_eq-Decides}
use Rattle.omf_format.specs.Header.{alignment_of, is_private}
use Rattle.omf_format.specs.Record.{Record, End, Const, LongConst, Align, Org, Space, Reloc, InterSeg, ShortReloc, ShortInterSeg, Super, Using, Strong, Label, Equate, Formula, Entry}
use Rattle.omf_format.specs.File.{Segment}
use Rattle.link_meaning.specs.First.{IsIn}
use Rattle.link_meaning.specs.laws.MemberLists.{filter_in}
use Rattle.object_meaning.specs.Sizes.{Located, size_at, located_from, records_with_offsets, place_after, body_size}
use Rattle.link_meaning.specs.Member.{Member}
use Rattle.object_meaning.specs.Defines.{Definition, outer_scope, title_of, defined_by, defined_in}
use Rattle.link_meaning.specs.Search.{FoundDefinition, entries_from, entries}
use Rattle.link_meaning.specs.Layout.{in_load, end_from, load_length, offset_of, distinct, load_names, number_in, load_of, load_fields, headers_from, load_headers}
use Rattle.link_meaning.specs.laws.LayoutLaws.{aligned_from-least, alignment-some}
use Rattle.link_meaning.specs.LinkFaults.{LinkInput, IsResolved}
use Rattle.link_meaning.specs.laws.Steps.{is_too_long, aligned_from}
use Rattle.link_meaning.specs.LinkValues.{place_value}
use Rattle.link_meaning.specs.laws.MadeLaws.{FitsPatch}
use Rattle.link_meaning.specs.laws.LinkWrittenLaws.{few_loads, short_loads, short_length}

-- the place `at` bytes from the start of a member is in it, or its end
pub record IsPlaceIn (list : List Member) (place : ℕ) (m : Member) (at : ℕ) : Type 0 where
  pub front : List Member
  pub back : List Member
  pub parts : list ≡ front ++ m ∷ back
  pub number : place ≡ length front + 1
  pub inside : at ≤ body_size m.segment

-- ---- numbers of load segments

number-le : (xs : List (List ℕ)) (x : List ℕ) → number_in xs x ≤ length xs + 1
number-le [] x = omega arith
number-le (y ∷ ys) x = elim (cases_Bool (bytes_eq y x)) [
  | inl same ↦ rw same (omega arith)
  | inr other ↦ rw other (omega (arith, number-le ys x))
]

load_small : (list : List Member) (m : Member) → length (load_names list) ≤ 254 → load_of list m < 2 ^ 16
unfolding load_of
load_small list m few = omega (arith, number-le (load_names list) m.segment.fields.load_name, few)

-- ---- offsets

negated : (b : Bool) → b ≡ false → not b ≡ true
negated b e = ap not e

in_names : (xs : List (List ℕ)) (x : List ℕ) → IsIn xs x → IsIn (distinct xs) x
in_names [] x is = is
in_names (y ∷ ys) x (inl e) = inl e
in_names (y ∷ ys) x (inr more) = elim (cases_Bool (bytes_eq x y)) [
  | inl same ↦ inl (sym ((bytes_eq-Decides x y).0 same))
  | inr other ↦ inr (filter_in (λ z. not (bytes_eq z y)) (distinct ys) x (in_names ys x more) (negated (bytes_eq x y) other))
]

map_in : (list : List Member) (m : Member) → IsIn list m → IsIn (map (λ (o : Member). o.segment.fields.load_name) list) m.segment.fields.load_name
map_in [] m is = is
map_in (o ∷ list) m (inl e) = inl (ap (λ (x : Member). x.segment.fields.load_name) e)
map_in (o ∷ list) m (inr more) = inr (map_in list m more)

pub name_there : (list : List Member) (m : Member) → IsIn list m → IsIn (load_names list) m.segment.fields.load_name
unfolding load_names
name_there list m is = in_names (map (λ (o : Member). o.segment.fields.load_name) list) m.segment.fields.load_name (map_in list m is)

header_there : (list : List Member) (number : ℕ) (xs : List (List ℕ)) (x : List ℕ) → IsIn xs x → AllByRecursion (λ f. is_too_long f ≡ false) (headers_from list number xs) → (n : ℕ) × (is_too_long (load_fields list n x) ≡ false)
header_there list number [] x is all = absurd is
header_there list number (y ∷ ys) x (inl e) all = (number, ap (λ (z : List ℕ). is_too_long (load_fields list number z)) (sym e) ∙ all.0)
header_there list number (y ∷ ys) x (inr more) all = header_there list (number + 1) ys x more all.1

length-load : (list : List Member) (n : ℕ) (x : List ℕ) → (load_fields list n x).length ≡ load_length x list
unfolding load_fields
length-load list n x = refl

pub short_load : (files : LinkInput) (list : List Member) (x : List ℕ) → IsResolved files list → IsIn (load_names list) x → load_length x list ≤ 0xFFFFFF
unfolding load_headers
short_load files list x resolved is =
    let there = header_there list 1 (load_names list) x is (short_loads files list resolved) in
    omega (arith, short_length (load_fields list there.0 x) there.1, length-load list there.0 x)

aligned-le : (align end : ℕ) → end ≤ aligned_from (alignment_of align) end
aligned-le align end = (aligned_from-least end (alignment_of align) (alignment-some align)).not_below

end-le : (end : ℕ) (x : List ℕ) (ms : List Member) → end ≤ end_from end x ms
end-le end x [] = omega arith
end-le end x (m ∷ ms) = elim (cases_Bool (in_load x m)) [
  | inl here ↦ rw here (omega (arith, aligned-le m.segment.fields.align end, end-le (aligned_from (alignment_of m.segment.fields.align) end + m.segment.fields.length) x ms))
  | inr other ↦ rw other (end-le end x ms)
]

end-append : (end : ℕ) (x : List ℕ) (ms ns : List Member) → end_from end x (ms ++ ns) ≡ end_from (end_from end x ms) x ns
end-append end x [] ns = refl
end-append end x (m ∷ ms) ns = end-append (cond (in_load x m) (aligned_from (alignment_of m.segment.fields.align) end + m.segment.fields.length) end) x ms ns

own_name : (m : Member) → in_load m.segment.fields.load_name m ≡ true
own_name m = (bytes_eq-Decides m.segment.fields.load_name m.segment.fields.load_name).1 refl

pub offset-le : (list front : List Member) (m : Member) (back : List Member) → list ≡ front ++ m ∷ back
    → offset_of list (length front + 1) m + m.segment.fields.length ≤ load_length m.segment.fields.load_name list
unfolding offset_of load_length
offset-le list front m back parts =
    let x = m.segment.fields.load_name in
    let before : take (length front + 1 - 1) list ≡ front = ap (take (length front + 1 - 1)) parts ∙ take_at front (m ∷ back) (length front + 1 - 1) (omega arith) in
    let offset = ap (λ (l : List Member). aligned_from (alignment_of m.segment.fields.align) (end_from 0 x l)) before in
    let here = aligned_from (alignment_of m.segment.fields.align) (end_from 0 x front) + m.segment.fields.length in
    let whole : end_from 0 x list ≡ end_from here x back =
    ap (end_from 0 x) parts ∙ end-append 0 x front (m ∷ back) ∙ ap (λ (b : Bool). end_from (cond b here (end_from 0 x front)) x back) (own_name m) in
    omega (arith, offset, whole, end-le here x back)

pub in_parts : (list front : List Member) (m : Member) (back : List Member) → list ≡ front ++ m ∷ back → IsIn list m
in_parts list front m back parts = subst (λ (l : List Member). IsIn l m) (sym parts) (there front)
  where
    there : (front : List Member) → IsIn (front ++ m ∷ back) m
    there [] = inl refl
    there (o ∷ front) = inr (there front)

pub place_fits : (files : LinkInput) (list : List Member) (place : ℕ) (m : Member) (at : ℕ) → IsResolved files list → ((o : Member) → IsIn list o → body_size o.segment ≤ o.segment.fields.length) → IsPlaceIn list place m at → FitsPatch (place_value list place m at)
unfolding place_value
place_fits files list place m at resolved whole is =
    let there = in_parts list is.front m is.back is.parts in
    let le = offset-le list is.front m is.back is.parts in
    let short = short_load files list m.segment.fields.load_name resolved (name_there list m there) in
    let same : offset_of list place m ≡ offset_of list (length is.front + 1) m = ap (λ (n : ℕ). offset_of list n m) is.number in
    (refl, (λ one. load_small list m (few_loads files list resolved)), (λ one. omega (arith, le, short, same, whole m there, is.inside)))

-- ---- definitions

pub following-le : (loc : ℕ) (founds : List (ℕ × Record)) → loc ≤ place_after loc founds
following-le loc [] = omega arith
following-le loc (found ∷ founds) = omega (arith, following-le (loc + size_at loc found.1) founds)

pub in-append : {A : Type 0} (xs ys : List A) (x : A) → IsIn (xs ++ ys) x → IsIn xs x ⊎ IsIn ys x
in-append [] ys x is = inr is
in-append (y ∷ xs) ys x (inl e) = inl (inl e)
in-append (y ∷ xs) ys x (inr more) = elim (in-append xs ys x more) [
  | inl h ↦ inl (inr h)
  | inr h ↦ inr h
]

by_record : (at place : ℕ) (r : Record) (d : Definition) → IsIn (defined_by at place r) d → d.place ≡ place
by_record at place End d is = absurd is
by_record at place (Const bytes) d is = absurd is
by_record at place (LongConst bytes) d is = absurd is
by_record at place (Align n) d is = absurd is
by_record at place (Org n) d is = absurd is
by_record at place (Space n) d is = absurd is
by_record at place (Reloc count shift location offset) d is = absurd is
by_record at place (InterSeg count shift location file segment offset) d is = absurd is
by_record at place (ShortReloc count shift location offset) d is = absurd is
by_record at place (ShortInterSeg count shift location segment offset) d is = absurd is
by_record at place (Super form bytes) d is = absurd is
by_record at place (Using name) d is = absurd is
by_record at place (Strong name) d is = absurd is
by_record at place (Label global name size form private) d (inl e) = ap (λ (x : Definition). x.place) (sym e)
by_record at place (Label global name size form private) d (inr more) = absurd more
by_record at place (Equate global name size form private expr) d (inl e) = ap (λ (x : Definition). x.place) (sym e)
by_record at place (Equate global name size form private expr) d (inr more) = absurd more
by_record at place (Formula code count n expr) d is = absurd is
by_record at place (Entry segment offset name) d is = absurd is

abbrev pub of_located : Located → List Definition
of_located r = defined_by r.at r.location r.content

by_records : (loc : ℕ) (founds : List (ℕ × Record)) (d : Definition) → IsIn (flat_map of_located (located_from loc founds)) d → d.place ≤ place_after loc founds
by_records loc [] d is = absurd is
by_records loc (found ∷ founds) d is =
    let r : Located = record { at = found.0; location = loc; content = found.1 } in
    elim (in-append (of_located r) (flat_map of_located (located_from (loc + size_at loc found.1) founds)) d (subst (λ (l : List Definition). IsIn l d) (flat_map-cons of_located r (located_from (loc + size_at loc found.1) founds)) is)) [
      | inl h ↦ omega (arith, by_record found.0 loc found.1 d h, following-le (loc + size_at loc found.1) founds)
      | inr h ↦ by_records (loc + size_at loc found.1) founds d h
    ]

by_title : (s : Segment) (d : Definition) → IsIn (title_of s) d → d.place ≡ 0
unfolding title_of
by_title s d is = by_name s.fields.name is
  where
    by_name : (name : List ℕ) → IsIn (elim name as (λ n. List Definition) [
      | [] ↦ []
      | b ∷ bs ↦ record { name = b ∷ bs; scope = outer_scope (is_private s.fields.kind); place = 0; at = s.start; expr = None; size = 0; form = 0x4E } ∷ []
    ]) d → d.place ≡ 0
    by_name [] is = absurd is
    by_name (b ∷ bs) (inl e) = ap (λ (x : Definition). x.place) (sym e)
    by_name (b ∷ bs) (inr more) = absurd more

by_definition : (s : Segment) (d : Definition) → IsIn (defined_in s) d → d.place ≤ body_size s
unfolding defined_in records_with_offsets body_size
by_definition s d is = elim (in-append (title_of s) (flat_map of_located (located_from 0 s.records)) d is) [
  | inl h ↦ omega (arith, by_title s d h)
  | inr h ↦ by_records 0 s.records d h
]

pub own_entry : (place : ℕ) (m : Member) (ds : List Definition) (f : FoundDefinition) → IsIn (map (λ (d : Definition). record { place = place; member = m; definition = d }) ds) f → (f.place ≡ place) × (f.member ≡ m) × IsIn ds f.definition
own_entry place m [] f is = absurd is
own_entry place m (d ∷ ds) f (inl e) = (ap (λ (x : FoundDefinition). x.place) (sym e), ap (λ (x : FoundDefinition). x.member) (sym e), inl (ap (λ (x : FoundDefinition). x.definition) e))
own_entry place m (d ∷ ds) f (inr more) = let rest = own_entry place m ds f more in (rest.0, rest.1, inr rest.2)

entry_from : (list front ms : List Member) (f : FoundDefinition) → list ≡ front ++ ms → IsIn (entries_from defined_in (length front + 1) ms) f → IsPlaceIn list f.place f.member f.definition.place
entry_from list front [] f parts is = absurd is
entry_from list front (m ∷ ms) f parts is = elim (in-append (map (λ (d : Definition). record { place = length front + 1; member = m; definition = d }) (defined_in m.segment)) (entries_from defined_in (length front + 1 + 1) ms) f is) [
  | inl h ↦
      let own = own_entry (length front + 1) m (defined_in m.segment) f h in
      record {
        front = front;
        back = ms;
        parts = parts ∙ ap (λ (o : Member). front ++ o ∷ ms) (sym own.1);
        number = own.0;
        inside = subst (λ (o : Member). f.definition.place ≤ body_size o.segment) (sym own.1) (by_definition m.segment f.definition own.2);
      }
  | inr h ↦
      let next : length front + 1 + 1 ≡ length (front ++ m ∷ []) + 1 = ap (λ (n : ℕ). n + 1) (sym (length-append front (m ∷ []))) in
      entry_from list (front ++ m ∷ []) ms f (parts ∙ sym (append_assoc front (m ∷ []) ms)) (subst (λ (n : ℕ). IsIn (entries_from defined_in n ms) f) next h)
]

-- a definition is a place in its member, or its end
pub entry_there : (list : List Member) (f : FoundDefinition) → IsIn (entries list) f → IsPlaceIn list f.place f.member f.definition.place
unfolding entries
entry_there list f is = entry_from list [] list f refl is
