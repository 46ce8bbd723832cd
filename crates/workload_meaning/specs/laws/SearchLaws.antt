-- What the names of the workload's object find: each the one segment that has it.
use Rattle.std.proofs.Common.{◌≡◌, ℕ, ◌+◌, ◌<◌, ◌≤◌, Bool, true, false, List, [], ◌∷◌, ◌++◌, length, map, refl, sym, ap, subst, ◌∙◌, arith, inl, inr}
use Rattle.std.specs.Prelude.{codes, None}
use Rattle.std.specs.List.{flat_map, AllByRecursion}
use Rattle.std.specs.Str.{bytes_eq}
use Rattle.std.proofs.lemmas.Bool.{cases_lt}
use Rattle.std.proofs.lemmas.List.Concat.{flat_map-cons}
use Rattle.std.proofs.lemmas.Slice.Eq.{bytes_eq-Decides}
use Rattle.omf_format.specs.Header.{is_private}
use Rattle.omf_format.specs.Expression.{Term, Named, Leaf, terms_in}
use Rattle.omf_format.specs.laws.ExpressionLaws.{terms_are}
use Rattle.omf_format.specs.Record.{Record, End, Const, LongConst, Align, Org, Space, Reloc, InterSeg, ShortReloc, ShortInterSeg, Super, Using, Strong, Label, Equate, Formula, Entry}
use Rattle.omf_format.specs.File.{Segment}
use Rattle.link_meaning.specs.declared.search.SearchKind.TheVariants.{One}
use Rattle.link_meaning.specs.declared.search.SearchStep.{SearchStep}
use Rattle.object_meaning.specs.Sizes.{Located, size_at, located_from, records_with_offsets}
use Rattle.link_meaning.specs.Member.{Member, without_runtimes, members_from, setting_in}
use Rattle.object_meaning.specs.Defines.{Definition, ForAll, outer_scope, title_of, defined_by, defined_in}
use Rattle.link_meaning.specs.Uses.{Use, used_by, used_by_term, uses_of, usings_of}
use Rattle.link_meaning.specs.Search.{FoundDefinition, entries_from, entries, with_this_name, first_step_found, outer_steps, or_else, only_place, finds_data, used_data, outside, finds}
use Rattle.link_meaning.specs.laws.Steps.{steps_of, data_name, finds_inside, used_in_text}
use Rattle.workload_meaning.specs.Object.{name_of, padded, value_of}
use Rattle.workload_meaning.specs.laws.NameLaws.{is_name, value_spells, name_differs, name_not_main}
use Rattle.workload_meaning.specs.laws.ObjectLaws.{IsOwnRecord, IsOwn}

-- ---- members

abbrev pub AreOwn : ℕ → List Member → Type 0
AreOwn n ms = AllByRecursion (λ (m : Member). IsOwn n m.segment) ms

pub members_own : (n file number : ℕ) (segments : List Segment) → AllByRecursion (IsOwn n) segments → AreOwn n (members_from without_runtimes file number segments)
members_own n file number [] own = tt
members_own n file number (s ∷ segments) own = (own.0, members_own n file (number + 1) segments own.1)

-- the members have the names of dynamic segments, from one with a number on
abbrev pub AreNamed : ℕ → List Member → Type 0
AreNamed i [] = Unit {0}
AreNamed i (m ∷ ms) = (m.segment.fields.name ≡ name_of i) × (m.segment.fields.load_name ≡ padded (name_of i)) × AreNamed (i + 1) ms

-- ---- definitions

none_defined : (n loc : ℕ) (founds : List (ℕ × Record)) → AllByRecursion (IsOwnRecord n) (map (λ found. found.1) founds) → flat_map (λ (r : Located). defined_by r.at r.location r.content) (located_from loc founds) ≡ []
none_defined n loc [] own = refl
none_defined n loc (found ∷ founds) own =
    flat_map-cons (λ (r : Located). defined_by r.at r.location r.content) (record { at = found.0; location = loc; content = found.1 }) (located_from (loc + size_at loc found.1) founds)
    ∙ ap (λ (l : List Definition). l ++ flat_map (λ (r : Located). defined_by r.at r.location r.content) (located_from (loc + size_at loc found.1) founds)) (nothing found.1 own.0)
    ∙ none_defined n (loc + size_at loc found.1) founds own.1
  where
    nothing : (r : Record) → IsOwnRecord n r → defined_by found.0 loc r ≡ []
    nothing End is = refl
    nothing (Const bytes) is = refl
    nothing (LongConst bytes) is = refl
    nothing (Formula code count k expr) is = refl
    nothing (Align k) is = absurd is
    nothing (Org k) is = absurd is
    nothing (Space k) is = absurd is
    nothing (Reloc count shift location offset) is = absurd is
    nothing (InterSeg count shift location file segment offset) is = absurd is
    nothing (ShortReloc count shift location offset) is = absurd is
    nothing (ShortInterSeg count shift location segment offset) is = absurd is
    nothing (Super form bytes) is = absurd is
    nothing (Using name) is = absurd is
    nothing (Strong name) is = absurd is
    nothing (Label global name size form private) is = absurd is
    nothing (Equate global name size form private expr) is = absurd is
    nothing (Entry segment offset name) is = absurd is

-- the name of a segment, seen by all
abbrev pub title : Segment → Definition
title s = record { name = s.fields.name; scope = ForAll; place = 0; at = s.start; expr = None; size = 0; form = 0x4E }

title_own : (n : ℕ) (s : Segment) → IsOwn n s → title_of s ≡ title s ∷ []
unfolding title_of
title_own n s own = by_name s.fields.name own.some
  where
    by_name : (name : List ℕ) → 1 ≤ length name → elim name as (λ x. List Definition) [
      | [] ↦ []
      | b ∷ bs ↦ record { name = b ∷ bs; scope = outer_scope (is_private s.fields.kind); place = 0; at = s.start; expr = None; size = 0; form = 0x4E } ∷ []
    ] ≡ record { name = name; scope = ForAll; place = 0; at = s.start; expr = None; size = 0; form = 0x4E } ∷ []
    by_name [] some = absurd (omega (arith, some))
    by_name (b ∷ bs) some =
        ap (λ (private : Bool). record { name = b ∷ bs; scope = outer_scope private; place = 0; at = s.start; expr = None; size = 0; form = 0x4E } ∷ []) own.public

defined_own : (n : ℕ) (s : Segment) → IsOwn n s → defined_in s ≡ title s ∷ []
unfolding defined_in records_with_offsets
defined_own n s own =
    ap (λ (l : List Definition). l ++ flat_map (λ (r : Located). defined_by r.at r.location r.content) (located_from 0 s.records)) (title_own n s own)
    ∙ ap (λ (l : List Definition). title s ∷ l) (none_defined n 0 s.records own.body)

-- the title of a member
abbrev pub title_at : ℕ → Member → FoundDefinition
title_at place m = record { place = place; member = m; definition = title m.segment }

abbrev pub titles_from : ℕ → List Member → List FoundDefinition
titles_from place [] = []
titles_from place (m ∷ ms) = title_at place m ∷ titles_from (place + 1) ms

entries_own : (n place : ℕ) (ms : List Member) → AreOwn n ms → entries_from defined_in place ms ≡ titles_from place ms
entries_own n place [] own = refl
entries_own n place (m ∷ ms) own =
    ap (λ (l : List Definition). map (λ (d : Definition). record { place = place; member = m; definition = d }) l ++ entries_from defined_in (place + 1) ms) (defined_own n m.segment own.0)
    ∙ ap (λ (l : List FoundDefinition). title_at place m ∷ l) (entries_own n (place + 1) ms own.1)

-- the members define their names and nothing else
pub entries_are : (n : ℕ) (list : List Member) → AreOwn n list → entries list ≡ titles_from 1 list
unfolding entries
entries_are n list own = entries_own n 1 list own

-- ---- uses

-- the use of a dynamic segment's name
abbrev pub IsOwnUse : ℕ → Use → Type 0
IsOwnUse n u = (u.want ≡ One) × ((i : ℕ) × (1 ≤ i) × (i ≤ n) × (u.name ≡ name_of i))

all_flat : {A B : Type 0} (P : B → Type 0) (f : A → List B) (xs : List A) → AllByRecursion (λ (x : A). AllByRecursion P (f x)) xs → AllByRecursion P (flat_map f xs)
all_flat P f [] all = tt
all_flat {A} {B} P f (x ∷ xs) all = subst (AllByRecursion P) (sym (flat_map-cons f x xs)) (both (f x) (flat_map f xs) all.0 (all_flat P f xs all.1))
  where
    both : (ys zs : List B) → AllByRecursion P ys → AllByRecursion P zs → AllByRecursion P (ys ++ zs)
    both [] zs p q = q
    both (y ∷ ys) zs p q = (p.0, both ys zs p.1 q)

terms_own : (i : ℕ) → i ≤ 64 → terms_in 0 0 (value_of (name_of i)) ≡ (0, Named 0x83 (name_of i)) ∷ []
terms_own i few = terms_are 0 (value_of (name_of i)) (Leaf (Named 0x83 (name_of i))) (value_spells (name_of i) (is_name i (omega (arith, few))))

text_own : (n i at : ℕ) → 1 ≤ i → i ≤ n → n ≤ 64 → AllByRecursion (IsOwnUse n) (used_in_text 0 at (value_of (name_of i)))
text_own n i at some few small =
    let one : AllByRecursion (IsOwnUse n) (flat_map (λ (placed : ℕ × Term). used_by_term at placed.1) ((0, Named 0x83 (name_of i)) ∷ [])) =
    all_flat (IsOwnUse n) (λ (placed : ℕ × Term). used_by_term at placed.1) ((0, Named 0x83 (name_of i)) ∷ []) (((refl, (i, some, few, refl)), tt), tt) in
    subst (λ (l : List (ℕ × Term)). AllByRecursion (IsOwnUse n) (flat_map (λ (placed : ℕ × Term). used_by_term at placed.1) l)) (sym (terms_own i (omega (arith, few, small)))) one

uses_own : (n lab_len : ℕ) (founds : List (ℕ × Record)) → n ≤ 64 → lab_len ≡ 0 → AllByRecursion (IsOwnRecord n) (map (λ found. found.1) founds)
    → AllByRecursion (λ (found : ℕ × Record). AllByRecursion (IsOwnUse n) (used_by lab_len found.0 found.1)) founds
uses_own n lab_len [] small none own = tt
uses_own n lab_len (found ∷ founds) small none own = (by_record found.1 own.0, uses_own n lab_len founds small none own.1)
  where
    by_record : (r : Record) → IsOwnRecord n r → AllByRecursion (IsOwnUse n) (used_by lab_len found.0 r)
    by_record End is = tt
    by_record (Const bytes) is = tt
    by_record (LongConst bytes) is = tt
    by_record (Formula code count k expr) is =
        subst (λ (l : ℕ). AllByRecursion (IsOwnUse n) (used_in_text l found.0 expr)) (sym none)
        (subst (λ (e : List ℕ). AllByRecursion (IsOwnUse n) (used_in_text 0 found.0 e)) (sym is.3) (text_own n is.0 found.0 is.1 is.2 small))
    by_record (Align k) is = absurd is
    by_record (Org k) is = absurd is
    by_record (Space k) is = absurd is
    by_record (Reloc count shift location offset) is = absurd is
    by_record (InterSeg count shift location file segment offset) is = absurd is
    by_record (ShortReloc count shift location offset) is = absurd is
    by_record (ShortInterSeg count shift location segment offset) is = absurd is
    by_record (Super form bytes) is = absurd is
    by_record (Using name) is = absurd is
    by_record (Strong name) is = absurd is
    by_record (Label global name size form private) is = absurd is
    by_record (Equate global name size form private expr) is = absurd is
    by_record (Entry segment offset name) is = absurd is

-- each use is of a dynamic segment's name
pub uses_are : (n : ℕ) (s : Segment) → n ≤ 64 → IsOwn n s → AllByRecursion (IsOwnUse n) (uses_of s)
unfolding uses_of
uses_are n s small own = all_flat (IsOwnUse n) (λ (found : ℕ × Record). used_by s.fields.lab_len found.0 found.1) s.records (uses_own n s.fields.lab_len s.records small own.lab_len own.body)

no_data : (n : ℕ) (us : List Use) → AllByRecursion (IsOwnUse n) us → flat_map data_name us ≡ []
no_data n [] own = refl
no_data n (u ∷ us) own =
    flat_map-cons data_name u us
    ∙ ap (λ (l : List (List ℕ)). l ++ flat_map data_name us) (ap (λ (w : Rattle.link_meaning.specs.declared.search.SearchKind.SearchKind). data_name (record { want = w; name = u.name; at = u.at })) own.0.0)
    ∙ no_data n us own.1

used_none : (n : ℕ) (list : List Member) (m : Member) → n ≤ 64 → IsOwn n m.segment → used_data list m ≡ []
unfolding used_data usings_of
used_none n list m small own = ap (flat_map (λ name. only_place (finds_data list m name))) (no_data n (uses_of m.segment) (uses_are n m.segment small own))

-- ---- what a name finds

-- the one member with a dynamic segment's name
pub record IsNamedAt (i place : ℕ) (ms : List Member) : Type 0 where
  pub front : List Member
  pub member : Member
  pub back : List Member
  pub parts : ms ≡ front ++ member ∷ back
  pub load_name : member.segment.fields.load_name ≡ padded (name_of i)
  pub found : with_this_name (name_of i) (titles_from place ms) ≡ title_at (place + length front) member ∷ []

none_named : (i j place : ℕ) (ms : List Member) → AreNamed j ms → i < j → j + length ms ≤ 65 → with_this_name (name_of i) (titles_from place ms) ≡ []
unfolding with_this_name
none_named i j place [] are less few = refl
none_named i j place (m ∷ ms) are less few =
    let other : bytes_eq (name_of i) m.segment.fields.name ≡ false = ap (bytes_eq (name_of i)) are.0 ∙ name_differs i j (omega (arith, less, few)) (omega (arith, few)) (λ e. omega (arith, e, less)) in
    rw other (none_named i (j + 1) (place + 1) ms are.2 (omega (arith, less)) (omega (arith, few)))

pub named_at : (i j place : ℕ) (ms : List Member) → AreNamed j ms → j ≤ i → i < j + length ms → j + length ms ≤ 65 → IsNamedAt i place ms
unfolding with_this_name
named_at i j place [] are le less few = absurd (omega (arith, le, less))
named_at i j place (m ∷ ms) are le less few = elim (cases_lt j i) [
  | inl lt ↦
      let other : bytes_eq (name_of i) m.segment.fields.name ≡ false = ap (bytes_eq (name_of i)) are.0 ∙ name_differs i j (omega (arith, less, few)) (omega (arith, few)) (λ e. omega (arith, e, lt)) in
      let rest = named_at i (j + 1) (place + 1) ms are.2 (omega (arith, lt)) (omega (arith, less)) (omega (arith, few)) in
      let later : place + 1 + length rest.front ≡ place + length (m ∷ rest.front) = omega arith in
      record {
        front = m ∷ rest.front;
        member = rest.member;
        back = rest.back;
        parts = ap (λ (l : List Member). m ∷ l) rest.parts;
        load_name = rest.load_name;
        found = rw other (rest.found ∙ ap (λ (p : ℕ). title_at p rest.member ∷ []) later);
      }
  | inr ge ↦
      let same : j ≡ i = omega (arith, le, ge) in
      let here : bytes_eq (name_of i) m.segment.fields.name ≡ true = (bytes_eq-Decides (name_of i) m.segment.fields.name).1 (sym (are.0 ∙ ap name_of same)) in
      let at_place : place ≡ place + 0 = omega arith in
      record {
        front = [];
        member = m;
        back = ms;
        parts = refl;
        load_name = are.1 ∙ ap (λ (k : ℕ). padded (name_of k)) same;
        found = rw here (ap (λ (l : List FoundDefinition). title_at place m ∷ l) (none_named i (j + 1) (place + 1) ms are.2 (omega (arith, ge)) (omega (arith, few))) ∙ ap (λ (p : ℕ). title_at p m ∷ []) at_place);
      }
]

-- after the segment MAIN too
pub named_after : (i : ℕ) (main : Member) (ms : List Member) → main.segment.fields.name ≡ codes "MAIN" → AreNamed 1 ms → 1 ≤ i → i ≤ length ms → length ms ≤ 64 → IsNamedAt i 1 (main ∷ ms)
unfolding with_this_name
named_after i main ms title_is are some less few =
    let other : bytes_eq (name_of i) main.segment.fields.name ≡ false = ap (bytes_eq (name_of i)) title_is ∙ name_not_main i in
    let rest = named_at i 1 2 ms are some (omega (arith, less)) (omega (arith, few)) in
    let later : 2 + length rest.front ≡ 1 + length (main ∷ rest.front) = omega arith in
    record {
      front = main ∷ rest.front;
      member = rest.member;
      back = rest.back;
      parts = ap (λ (l : List Member). main ∷ l) rest.parts;
      load_name = rest.load_name;
      found = rw other (rest.found ∙ ap (λ (p : ℕ). title_at p rest.member ∷ []) later);
    }

inside_one : (n i place : ℕ) (list : List Member) (m : Member) → n ≤ 64 → AreOwn n list → IsOwn n m.segment → (at : IsNamedAt i 1 list) → finds_inside list place m (name_of i) ≡ title_at (1 + length at.front) at.member ∷ []
inside_one n i place list m small all own at =
    ap (λ (l : List FoundDefinition). first_step_found (steps_of list place m) (with_this_name (name_of i) l)) (entries_are n list all)
    ∙ ap (λ (l : List FoundDefinition). first_step_found (steps_of list place m) l) at.found
    ∙ ap (λ (used : List ℕ). first_step_found (Rattle.link_meaning.specs.declared.search.SearchStep.TheVariants.Within place ∷ (map (λ (p : ℕ). Rattle.link_meaning.specs.declared.search.SearchStep.TheVariants.Within p) used ++ outer_steps m)) (title_at (1 + length at.front) at.member ∷ [])) (used_none n list m small own)

-- a name that one member has finds it
pub finds_one : (n i place : ℕ) (list : List Member) (m : Member) → n ≤ 64 → AreOwn n list → IsOwn n m.segment → (at : IsNamedAt i 1 list) → finds list place m (name_of i) ≡ title_at (1 + length at.front) at.member ∷ []
unfolding finds
finds_one n i place list m small all own at =
    ap (λ (l : List FoundDefinition). or_else l (with_this_name (name_of i) (outside (setting_in list)))) (inside_one n i place list m small all own at)
