-- What is looked up for a row is what the definition says of it.
use Rattle.std.proofs.Common.{◌≡◌, ℕ, zero, suc, ◌+◌, ◌<◌, ◌≤◌, Bool, true, false, eqb, ltb, List, [], ◌∷◌, length, take, drop, map, Option, Some, None, Result, Ok, Err, refl, sym, ap, subst, ◌∙◌, arith}
use Rattle.std.specs.Prelude.{◌||◌, ◌&&◌, not, nat_eq, ◌==◌, if◌then◌else◌, slice_get, option_map}
use Rattle.std.specs.Option.{option_map_or}
use Rattle.std.specs.List.{list_any, flat_map, filter_map, cons_option}
use Rattle.std.specs.Str.{bytes_eq}
use Rattle.std.proofs.Math.Bool.{beq}
use Rattle.std.proofs.lemmas.Bool.{eqb-true, eqb-false, eq-eqb, ne_eqb, ltb-false}
use Rattle.std.proofs.lemmas.List.{length-drop}
use Rattle.std.proofs.lemmas.List.Concat.{flat_map-cons}
use Rattle.omf_format.specs.Number.{number_at}
use Rattle.omf_format.specs.Field.{◌>>=◌}
use Rattle.omf_format.specs.Header.{form_of}
use Rattle.omf_format.specs.File.{Segment, AreSegments, IsFile, segment_at}
use Rattle.omf_format.specs.laws.FileLaws.{header_lies}
use Rattle.link_meaning.specs.Member.{OfferedRow}
use Rattle.object_meaning.specs.Defines.{Scope, ForSegment, ForUnit, ForAll, Definition, defined_in}
use Rattle.link_meaning.specs.Dictionary.{names_from, numbered_from, first_pair, or_false, row_at}
use Rattle.link_meaning.specs.laws.Steps.{has_scope}
use Rattle.lib_dict.specs.declared.rows.Tables.{Tables}
use Rattle.lib_dict.specs.Library.{LibraryRow, segment_rows, is_dictionary}
use Rattle.lib_dict.specs.Steps.{outer_name, name_in, outer_names}
use Rattle.lib_dict.specs.View.{outer_row}
use Rattle.lib_dict.specs.Tables.{same_row, starts_of, other_rows, following_rows, numbers_in, names_in, FitsTables, IsNameAt, row_in, IsRowAnswer}
use Rattle.lib_dict.proofs.Sets.{or_false as or_none, list_any-append, list_any-map}

-- a row
abbrev pub made : List ℕ → ℕ → Bool → ℕ → LibraryRow
made name file private at = record { name = name; file = file; private = private; at = at }

-- ---- tests

eqb-sym : (a b : ℕ) → eqb a b ≡ eqb b a
eqb-sym a b = by (eqb a b) refl
  where
    by : (x : Bool) → x ≡ eqb a b → x ≡ eqb b a
    by true is = sym (eq-eqb b a (sym (eqb-true a b (sym is))))
    by false is = sym (ne_eqb b a (λ e. eqb-false a b (sym is) (sym e)))

bytes-sym : (a b : List ℕ) → bytes_eq a b ≡ bytes_eq b a
bytes-sym [] [] = refl
bytes-sym [] (y ∷ b) = refl
bytes-sym (x ∷ a) [] = refl
bytes-sym (x ∷ a) (y ∷ b) = ap (λ (t : Bool). t && bytes_eq a b) (eqb-sym x y) ∙ ap (λ (t : Bool). eqb y x && t) (bytes-sym a b)

any-same : {A : Type 0} (P Q : A → Bool) → ((x : A) → P x ≡ Q x) → (xs : List A) → list_any P xs ≡ list_any Q xs
any-same P Q same [] = refl
any-same P Q same (x ∷ xs) = ap (λ (b : Bool). b || list_any P xs) (same x) ∙ ap (λ (b : Bool). Q x || b) (any-same P Q same xs)

any-none : {A : Type 0} (P : A → Bool) → ((x : A) → P x ≡ false) → (xs : List A) → list_any P xs ≡ false
any-none P none [] = refl
any-none P none (x ∷ xs) = ap (λ (b : Bool). b || list_any P xs) (none x) ∙ any-none P none xs

and-false : (a : Bool) → (a && false) ≡ false
and-false true = refl
and-false false = refl

-- ---- names that a segment has for others

abbrev is_named : List ℕ → Bool → List ℕ × Bool → Bool
is_named name private n = bytes_eq name n.0 && beq private n.1

abbrev defines_so : List ℕ → Bool → Definition → Bool
defines_so name private d = bytes_eq d.name name && has_scope private d.scope

-- the segment defines the name so
abbrev pub defines : List ℕ → Bool → Segment → Bool
defines name private s = list_any (defines_so name private) (defined_in s)

beq-true : (b : Bool) → beq b true ≡ b
beq-true true = refl
beq-true false = refl

beq-false : (b : Bool) → beq b false ≡ not b
beq-false true = refl
beq-false false = refl

names_define : (name : List ℕ) (private : Bool) (ds : List Definition) → list_any (is_named name private) (filter_map outer_name ds) ≡ list_any (defines_so name private) ds
names_define name private [] = refl
names_define name private (d ∷ ds) = by_scope d.scope (names_define name private ds)
  where
    rest : List (List ℕ × Bool)
    rest = filter_map outer_name ds

    by_scope : (scope : Scope) → list_any (is_named name private) rest ≡ list_any (defines_so name private) ds
        → list_any (is_named name private) (cons_option (name_in scope d.name) rest) ≡ ((bytes_eq d.name name && has_scope private scope) || list_any (defines_so name private) ds)
    by_scope ForSegment same = same ∙ sym (ap (λ (b : Bool). b || list_any (defines_so name private) ds) (and-false (bytes_eq d.name name)))
    by_scope ForUnit same =
        ap (λ (b : Bool). (bytes_eq name d.name && b) || list_any (is_named name private) rest) (beq-true private)
        ∙ ap (λ (b : Bool). (b && private) || list_any (is_named name private) rest) (bytes-sym name d.name)
        ∙ ap (λ (b : Bool). (bytes_eq d.name name && private) || b) same
    by_scope ForAll same =
        ap (λ (b : Bool). (bytes_eq name d.name && b) || list_any (is_named name private) rest) (beq-false private)
        ∙ ap (λ (b : Bool). (b && not private) || list_any (is_named name private) rest) (bytes-sym name d.name)
        ∙ ap (λ (b : Bool). (bytes_eq d.name name && not private) || b) same

-- ---- rows of segments

-- the row that is looked for: a name with its privacy, of no file, in a segment that starts there
abbrev pub wanted_row : List ℕ → Bool → ℕ → LibraryRow
wanted_row name private at = record { name = name; file = 0; private = private; at = at }

-- the segment may be the one of a row
abbrev pub may_be : ℕ → ℕ × Segment → Bool
may_be at x = x.1.start == at && not (form_of x.1.fields.kind == 0x08)

rows_define : (name : List ℕ) (private : Bool) (at : ℕ) (s : Segment) → list_any (same_row (wanted_row name private at)) (segment_rows 0 0 s) ≡ ((s.start == at) && defines name private s)
rows_define name private at s = list_any-map (same_row (wanted_row name private at)) row_of (outer_names s) ∙ by (s.start == at) (eqb-sym at (0 + s.start) ∙ ap (λ (n : ℕ). eqb n at) plain)
  where
    row_of : List ℕ × Bool → LibraryRow
    row_of n = record { name = n.0; file = 0; private = n.1; at = 0 + s.start }

    plain : 0 + s.start ≡ s.start
    plain = omega arith

    test : List ℕ × Bool → Bool
    test n = bytes_eq name n.0 && (nat_eq 0 0 && (beq private n.1 && nat_eq at (0 + s.start)))

    with_at : (n : List ℕ × Bool) (b c : Bool) → nat_eq at (0 + s.start) ≡ b → c ≡ (bytes_eq name n.0 && (true && (beq private n.1 && b))) → test n ≡ c
    with_at n b c e is = ap (λ (x : Bool). bytes_eq name n.0 && (true && (beq private n.1 && x))) e ∙ sym is

    no_more : (a b : Bool) → false ≡ (a && (true && (b && false)))
    no_more true true = refl
    no_more true false = refl
    no_more false b = refl

    no_less : (a b : Bool) → (a && b) ≡ (a && (true && (b && true)))
    no_less true true = refl
    no_less true false = refl
    no_less false b = refl

    by : (b : Bool) → nat_eq at (0 + s.start) ≡ b → list_any test (outer_names s) ≡ (b && defines name private s)
    by true e = any-same test (is_named name private) (λ n. with_at n true (is_named name private n) e (no_less (bytes_eq name n.0) (beq private n.1))) (outer_names s) ∙ names_define name private (defined_in s)
    by false e = any-none test (λ n. with_at n false false e (no_more (bytes_eq name n.0) (beq private n.1))) (outer_names s)

-- a segment that isn't a dictionary
other_define : (name : List ℕ) (private : Bool) (at k : ℕ) (s : Segment) → list_any (same_row (wanted_row name private at)) (other_rows s) ≡ (may_be at (k, s) && defines name private s)
other_define name private at k s = by (is_dictionary s)
  where
    regroup : (a d : Bool) → (a && d) ≡ ((a && true) && d)
    regroup true d = refl
    regroup false d = refl

    none : (a d : Bool) → false ≡ ((a && false) && d)
    none true d = refl
    none false d = refl

    by : (b : Bool) → list_any (same_row (wanted_row name private at)) (if b then [] else segment_rows 0 0 s) ≡ ((s.start == at && not b) && defines name private s)
    by true = none (s.start == at) (defines name private s)
    by false = rows_define name private at s ∙ regroup (s.start == at) (defines name private s)

-- what was found of the segments defines the name so
abbrev pub found_defines : List ℕ → Bool → Option (ℕ × Segment) → Bool
found_defines name private None = false
found_defines name private (Some x) = defines name private x.1

-- a segment that starts later isn't the one
none_later : (name : List ℕ) (private : Bool) (at : ℕ) (segments : List Segment) (next : ℕ) (file : List ℕ) (end : ℕ) → AreSegments segments next file end → at < next
    → list_any (same_row (wanted_row name private at)) (flat_map other_rows segments) ≡ false
none_later name private at [] next file end are later = refl
none_later name private at (s ∷ segments) next file end are later =
    let lies = header_lies s.start s.fields file are.2.header in
    let rest = none_later name private at segments (next + s.fields.byte_count) file end are.3 (omega arith) in
    let other : (s.start == at) ≡ false = ne_eqb s.start at (λ e. absurd (omega (arith, are.0))) in
    let first : list_any (same_row (wanted_row name private at)) (other_rows s) ≡ false =
    other_define name private at 0 s ∙ ap (λ (b : Bool). (b && not (is_dictionary s)) && defines name private s) other in
    ap (list_any (same_row (wanted_row name private at))) (flat_map-cons other_rows s segments)
    ∙ list_any-append (same_row (wanted_row name private at)) (other_rows s) (flat_map other_rows segments)
    ∙ ap (λ (b : Bool). b || list_any (same_row (wanted_row name private at)) (flat_map other_rows segments)) first
    ∙ rest

-- among the rows of the segments the row is there where the segment that starts there defines the name so
segments_define : (name : List ℕ) (private : Bool) (at number : ℕ) (segments : List Segment) (next : ℕ) (file : List ℕ) (end : ℕ) → AreSegments segments next file end
    → list_any (same_row (wanted_row name private at)) (flat_map other_rows segments) ≡ found_defines name private (first_pair (may_be at) (numbered_from number segments))
segments_define name private at number [] next file end are = refl
segments_define name private at number (s ∷ segments) next file end are =
    let q = wanted_row name private at in
    let lies = header_lies s.start s.fields file are.2.header in
    ap (list_any (same_row q)) (flat_map-cons other_rows s segments)
    ∙ list_any-append (same_row q) (other_rows s) (flat_map other_rows segments)
    ∙ ap (λ (b : Bool). b || list_any (same_row q) (flat_map other_rows segments)) (other_define name private at number s)
    ∙ by (may_be at (number, s)) refl
    (λ here. none_later name private at segments (next + s.fields.byte_count) file end are.3 (omega (arith, lies.some, are.0, eqb-true s.start at (and-first (s.start == at) (not (is_dictionary s)) here))))
    (segments_define name private at (number + 1) segments (next + s.fields.byte_count) file end are.3)
  where
    and-first : (a b : Bool) → (a && b) ≡ true → a ≡ true
    and-first true b e = refl
    and-first false b e = absurd cc

    later : Bool
    later = list_any (same_row (wanted_row name private at)) (flat_map other_rows segments)

    rest : Option (ℕ × Segment)
    rest = first_pair (may_be at) (numbered_from (number + 1) segments)

    by : (b : Bool) → b ≡ may_be at (number, s) → (may_be at (number, s) ≡ true → later ≡ false) → later ≡ found_defines name private rest
        → ((b && defines name private s) || later) ≡ found_defines name private (if b then Some (number, s) else rest)
    by true is none go = ap (λ (b : Bool). defines name private s || b) (none (sym is)) ∙ or_none (defines name private s)
    by false is none go = go

-- the segment that is found
record IsFound (at number : ℕ) (segments : List Segment) (x : ℕ × Segment) : Type 0 where
  place : ℕ
  number' : x.0 ≡ number + place
  here : slice_get segments place ≡ Some x.1
  start : x.1.start ≡ at

found_is : (at number : ℕ) (segments : List Segment) (x : ℕ × Segment) → first_pair (may_be at) (numbered_from number segments) ≡ Some x → IsFound at number segments x
found_is at number [] x e = absurd cc
found_is at number (s ∷ segments) x e = by (may_be at (number, s)) refl e (found_is at (number + 1) segments x)
  where
    and-first : (a b : Bool) → (a && b) ≡ true → a ≡ true
    and-first true b e = refl
    and-first false b e = absurd cc

    some : ℕ × Segment → Option (ℕ × Segment)
    some y = Some y

    some_same : (a b : ℕ × Segment) → some a ≡ some b → a ≡ b
    some_same a b e = cc

    by : (b : Bool) → b ≡ may_be at (number, s) → (if b then Some (number, s) else first_pair (may_be at) (numbered_from (number + 1) segments)) ≡ Some x
        → (first_pair (may_be at) (numbered_from (number + 1) segments) ≡ Some x → IsFound at (number + 1) segments x) → IsFound at number (s ∷ segments) x
    by true is e go =
        let same = some_same (number, s) x e in
        let start : s.start ≡ at = eqb-true s.start at (and-first (s.start == at) (not (is_dictionary s)) (sym is)) in
        record {
          place = 0;
          number' = omega (arith, ap (λ (y : ℕ × Segment). y.0) same);
          here = ap (λ (y : ℕ × Segment). Some y.1) same;
          start = sym (ap (λ (y : ℕ × Segment). y.1.start) same) ∙ start;
        }
    by false is e go =
        let f = go e in
        record { place = suc f.place; number' = omega (arith, f.number'); here = f.here; start = f.start }

-- ---- names of the third record

abbrev Names : Type 0
Names = List (ℕ × List ℕ)

-- the name that starts there
pub record HasName (third : List ℕ) (names : Names) (d : ℕ) : Type 0 where
  pub first : first_pair (λ x. x.0 == d) names ≡ Some (d, take (number_at 1 d third) (drop (d + 1) third))
  pub at : IsNameAt third d

drop-tail : (k : ℕ) (xs : List ℕ) (b : ℕ) (rest : List ℕ) → drop k xs ≡ b ∷ rest → drop (k + 1) xs ≡ rest
drop-tail zero xs b rest e = ap (drop 1) e
drop-tail (suc k) [] b rest e = absurd cc
drop-tail (suc k) (x ∷ xs) b rest e = let step : suc k + 1 ≡ suc (k + 1) = omega arith in ap (λ (n : ℕ). drop n (x ∷ xs)) step ∙ drop-tail k xs b rest e

drop-nil : (n : ℕ) → drop {A = ℕ} n [] ≡ []
drop-nil zero = refl
drop-nil (suc n) = refl

drop-drop : (a b : ℕ) (xs : List ℕ) → drop b (drop a xs) ≡ drop (a + b) xs
drop-drop zero b xs = let same : b ≡ 0 + b = omega arith in ap (λ (n : ℕ). drop n xs) same
drop-drop (suc a) b [] = drop-nil b ∙ sym (drop-nil (suc a + b))
drop-drop (suc a) b (x ∷ xs) = let same : suc a + b ≡ suc (a + b) = omega arith in drop-drop a b xs ∙ ap (λ (n : ℕ). drop n (x ∷ xs)) (sym same)

head_number : (at b : ℕ) (third rest : List ℕ) → drop at third ≡ b ∷ rest → number_at 1 at third ≡ b
unfolding number_at
head_number at b third rest e = rw e (omega arith)

names_step : (n at b : ℕ) (rest : List ℕ) (names : Names) → names_from (suc n) at (b ∷ rest) ≡ Some names
    → (b ≤ length rest) × ((more : Names) × (names_from n (at + 1 + b) (drop b rest) ≡ Some more) × (names ≡ (at, take b rest) ∷ more))
unfolding names_from
names_step n at b rest names e = by (ltb (length rest) b) refl e
  where
    some : Names → Option Names
    some x = Some x

    some_same : (x y : Names) → some x ≡ some y → x ≡ y
    some_same x y e = cc

    by_more : (o : Option Names) → option_map (λ more. (at, take b rest) ∷ more) o ≡ Some names → (more : Names) × (o ≡ Some more) × (names ≡ (at, take b rest) ∷ more)
    by_more None e = absurd cc
    by_more (Some more) e = (more, refl, sym (some_same ((at, take b rest) ∷ more) names e))

    by : (t : Bool) → t ≡ ltb (length rest) b → (if t then None else option_map (λ more. (at, take b rest) ∷ more) (names_from n (at + 1 + b) (drop b rest))) ≡ Some names
        → (b ≤ length rest) × ((more : Names) × (names_from n (at + 1 + b) (drop b rest) ≡ Some more) × (names ≡ (at, take b rest) ∷ more))
    by true is e = absurd cc
    by false is e = (ltb-false (length rest) b (sym is), by_more (names_from n (at + 1 + b) (drop b rest)) e)

abbrev some_names : Names → Option Names
some_names x = Some x

names_same : (x y : Names) → some_names x ≡ some_names y → x ≡ y
names_same x y e = cc

empty_names : (n at : ℕ) (names : Names) → names_from n at [] ≡ Some names → names ≡ []
unfolding names_from
empty_names zero at names e = sym (names_same [] names e)
empty_names (suc n) at names e = sym (names_same [] names e)

no_fuel : (at b : ℕ) (rest : List ℕ) (names : Names) → names_from zero at (b ∷ rest) ≡ Some names → ⊥
unfolding names_from
no_fuel at b rest names e = cc

name_found : (n at : ℕ) (third : List ℕ) (bytes : List ℕ) (names : Names) (d : ℕ) → drop at third ≡ bytes → at ≤ length third → names_from n at bytes ≡ Some names
    → list_any (nat_eq d) (starts_of names) ≡ true → HasName third names d
name_found n at third [] names d here within e any =
    let no : list_any (nat_eq d) (starts_of names) ≡ false = ap (λ (l : Names). list_any (nat_eq d) (starts_of l)) (empty_names n at names e) in
    absurd cc
name_found zero at third (b ∷ rest) names d here within e any = absurd (no_fuel at b rest names e)
name_found (suc n) at third (b ∷ rest) names d here within e any =
    let step = names_step n at b rest names e in
    let more = step.1.0 in
    let tail : drop (at + 1) third ≡ rest = drop-tail at third b rest here in
    let size : length third ≡ at + 1 + length rest = omega (arith, ap length here, length-drop at third) in
    let next : drop (at + 1 + b) third ≡ drop b rest = sym (drop-drop (at + 1) b third) ∙ ap (drop b) tail in
    let any' : (nat_eq d at || list_any (nat_eq d) (starts_of more)) ≡ true = ap (λ (l : Names). list_any (nat_eq d) (starts_of l)) (sym step.1.2) ∙ any in
    subst (λ (l : Names). HasName third l d) (sym step.1.2)
    (by (nat_eq d at) refl more tail size step.0 (head_number at b third rest here) any' (name_found n (at + 1 + b) third (drop b rest) more d next (omega (arith, step.0, size)) step.1.1))
  where
    by : (t : Bool) → t ≡ nat_eq d at → (more : Names) → drop (at + 1) third ≡ rest → length third ≡ at + 1 + length rest → b ≤ length rest → number_at 1 at third ≡ b
        → (t || list_any (nat_eq d) (starts_of more)) ≡ true → (list_any (nat_eq d) (starts_of more) ≡ true → HasName third more d) → HasName third ((at, take b rest) ∷ more) d
    by true is more tail size whole number any go =
        let same : d ≡ at = eqb-true d at (sym is) in
        let here : (at == d) ≡ true = eq-eqb at d (sym same) in
        let text : take (number_at 1 at third) (drop (at + 1) third) ≡ take b rest = ap (λ (n : ℕ). take n (drop (at + 1) third)) number ∙ ap (take b) tail in
        subst (λ (k : ℕ). HasName third ((at, take b rest) ∷ more) k) (sym same) record {
          first = by_test (at == at) (eq-eqb at at refl) more ∙ ap (λ (l : List ℕ). some_pair (at, l)) (sym text);
          at = record { length' = omega arith; whole = omega (arith, number) };
        }
      where
        some_pair : ℕ × List ℕ → Option (ℕ × List ℕ)
        some_pair x = Some x

        by_test : (t : Bool) → t ≡ true → (more : Names) → (if t then Some (at, take b rest) else first_pair (λ x. x.0 == at) more) ≡ Some (at, take b rest)
        by_test true e more = refl
        by_test false e more = absurd cc
    by false is more tail size whole number any go =
        let rest' = go any in
        let other : (at == d) ≡ false = eqb-sym at d ∙ sym is in
        record { first = skip (at == d) other more ∙ rest'.first; at = rest'.at }
      where
        skip : (t : Bool) → t ≡ false → (more : Names) → (if t then Some (at, take b rest) else first_pair (λ x. x.0 == d) more) ≡ first_pair (λ x. x.0 == d) more
        skip false e more = refl
        skip true e more = absurd cc

no_name : (names : Names) (d : ℕ) → list_any (nat_eq d) (starts_of names) ≡ false → first_pair (λ x. x.0 == d) names ≡ None
no_name [] d none = refl
no_name (x ∷ names) d none = by (nat_eq d x.0) (eqb-sym d x.0) none (no_name names d)
  where
    by : (t : Bool) → t ≡ (x.0 == d) → (t || list_any (nat_eq d) (starts_of names)) ≡ false → (list_any (nat_eq d) (starts_of names) ≡ false → first_pair (λ y. y.0 == d) names ≡ None)
        → (if x.0 == d then Some x else first_pair (λ y. y.0 == d) names) ≡ None
    by true is e go = absurd cc
    by false is e go = rw (sym is) (go e)

-- ---- a row

any-flip : (f : ℕ) (numbers : List ℕ) → list_any (λ k. k == f) numbers ≡ list_any (nat_eq f) numbers
any-flip f numbers = any-same (λ k. k == f) (nat_eq f) (λ k. eqb-sym k f) numbers

-- the answer for a row, from what is found
abbrev answered : ℕ → ℕ → Bool → Option (ℕ × List ℕ) → Option (ℕ × Segment) → Bool → Result OfferedRow ℕ
answered at from private name member known =
    or_false at name >>= λ n.
    or_false at member >>= λ m.
    if known && defines n.1 private m.1
    then Ok (record { name = n.1; from = from; private = private; segment = m.0 })
    else Err at

abbrev row_ok : OfferedRow → Result OfferedRow ℕ
row_ok row = Ok row

abbrev pub private_of : List ℕ → Bool
private_of bytes = not (number_at 2 6 bytes == 0)

row_is : (numbers : List ℕ) (names : Names) (members : List (ℕ × Segment)) (at : ℕ) (bytes : List ℕ) → row_at numbers names members at bytes
    ≡ answered at (number_at 2 4 bytes) (private_of bytes) (first_pair (λ x. x.0 == number_at 4 0 bytes) names) (first_pair (may_be (number_at 4 8 bytes)) members) (list_any (λ k. k == number_at 2 4 bytes) numbers)
unfolding row_at
row_is numbers names members at bytes = refl

-- no name starts where it says
pub row_unnamed : (t : Tables) (bytes : List ℕ) → FitsTables t → list_any (nat_eq (number_at 4 0 bytes)) t.starts.keys ≡ false → (at : ℕ) → row_in t at bytes ≡ Err at
row_unnamed t bytes fits none at =
    let names = names_in t.third.now in
    let no = no_name names (number_at 4 0 bytes) (sym (fits.starts.each (number_at 4 0 bytes)) ∙ none) in
    let members = numbered_from 2 (drop 1 t.list.now) in
    row_is (numbers_in t.first.now) names members at bytes
    ∙ ap (λ (o : Option (ℕ × List ℕ)). answered at (number_at 2 4 bytes) (private_of bytes) o (first_pair (may_be (number_at 4 8 bytes)) members) (list_any (λ k. k == number_at 2 4 bytes) (numbers_in t.first.now))) no

-- no file has its number
pub row_unnumbered : (t : Tables) (bytes : List ℕ) → FitsTables t → list_any (nat_eq (number_at 2 4 bytes)) t.numbers.keys ≡ false → (at : ℕ) → row_in t at bytes ≡ Err at
row_unnumbered t bytes fits none at =
    let names = names_in t.third.now in
    let members = numbered_from 2 (drop 1 t.list.now) in
    let no : list_any (λ k. k == number_at 2 4 bytes) (numbers_in t.first.now) ≡ false = any-flip (number_at 2 4 bytes) (numbers_in t.first.now) ∙ sym (fits.numbers.each (number_at 2 4 bytes)) ∙ none in
    let name = first_pair (λ x. x.0 == number_at 4 0 bytes) names in
    let member = first_pair (may_be (number_at 4 8 bytes)) members in
    row_is (numbers_in t.first.now) names members at bytes
    ∙ ap (answered at (number_at 2 4 bytes) (private_of bytes) name member) no
    ∙ by name member
  where
    by : (name : Option (ℕ × List ℕ)) (member : Option (ℕ × Segment)) → answered at (number_at 2 4 bytes) (private_of bytes) name member false ≡ Err at
    by None member = refl
    by (Some n) None = refl
    by (Some n) (Some m) = refl

-- the name that starts where it says
pub row_name : (t : Tables) (d : ℕ) → FitsTables t → list_any (nat_eq d) t.starts.keys ≡ true → HasName t.third.now (names_in t.third.now) d
row_name t d fits any =
    name_found (length t.third.now) 0 t.third.now t.third.now (names_in t.third.now) d refl (omega arith) fits.named (sym (fits.starts.each d) ∙ any)

pub row_name_at : (t : Tables) (d : ℕ) → FitsTables t → list_any (nat_eq d) t.starts.keys ≡ true → IsNameAt t.third.now d
row_name_at t d fits any = (row_name t d fits any).at

abbrev pub text_at : Tables → List ℕ → List ℕ
text_at t bytes = let d = number_at 4 0 bytes in take (number_at 1 d t.third.now) (drop (d + 1) t.third.now)

-- what the segments define
rows_after : (t : Tables) (name : List ℕ) (private : Bool) (at : ℕ) → FitsTables t
    → list_any (same_row (wanted_row name private at)) (map outer_row t.known.keys) ≡ found_defines name private (first_pair (may_be at) (numbered_from 2 (drop 1 t.list.now)))
unfolding following_rows
rows_after t name private at fits = fits.known.each (wanted_row name private at) ∙ by t.list.now fits.file.is_file
  where
    by : (segments : List Segment) → IsFile segments fits.file.file
        → list_any (same_row (wanted_row name private at)) (flat_map other_rows (drop 1 segments)) ≡ found_defines name private (first_pair (may_be at) (numbered_from 2 (drop 1 segments)))
    by [] are = refl
    by (s ∷ segments) are = segments_define name private at 2 segments (0 + s.fields.byte_count) fits.file.file (length fits.file.file) are.3

-- no segment that starts where it says defines the name so
pub row_unknown : (t : Tables) (bytes : List ℕ) → FitsTables t → list_any (nat_eq (number_at 4 0 bytes)) t.starts.keys ≡ true
    → list_any (same_row (wanted_row (text_at t bytes) (private_of bytes) (number_at 4 8 bytes))) (map outer_row t.known.keys) ≡ false → (at : ℕ) → row_in t at bytes ≡ Err at
row_unknown t bytes fits any none at =
    let names = names_in t.third.now in
    let members = numbered_from 2 (drop 1 t.list.now) in
    let text = text_at t bytes in
    let private = private_of bytes in
    let has = row_name t (number_at 4 0 bytes) fits any in
    let numbers = list_any (λ k. k == number_at 2 4 bytes) (numbers_in t.first.now) in
    let member = first_pair (may_be (number_at 4 8 bytes)) members in
    let other : found_defines text private member ≡ false = sym (rows_after t text private (number_at 4 8 bytes) fits) ∙ none in
    row_is (numbers_in t.first.now) names members at bytes
    ∙ ap (λ (o : Option (ℕ × List ℕ)). answered at (number_at 2 4 bytes) private o member numbers) has.first
    ∙ by text private member numbers other
  where
    by : (text : List ℕ) (private : Bool) (member : Option (ℕ × Segment)) (numbers : Bool) → found_defines text private member ≡ false
        → answered at (number_at 2 4 bytes) private (Some (number_at 4 0 bytes, text)) member numbers ≡ Err at
    by text private None numbers other = refl
    by text private (Some m) numbers other = rw other (last numbers)
      where
        last : (b : Bool) → (if b && false then row_ok (record { name = text; from = number_at 2 4 bytes; private = private; segment = m.0 }) else Err at) ≡ Err at
        last true = refl
        last false = refl

-- the library bears the row out
pub row_known : (t : Tables) (bytes : List ℕ) → FitsTables t → list_any (nat_eq (number_at 4 0 bytes)) t.starts.keys ≡ true → list_any (nat_eq (number_at 2 4 bytes)) t.numbers.keys ≡ true
    → list_any (same_row (wanted_row (text_at t bytes) (private_of bytes) (number_at 4 8 bytes))) (map outer_row t.known.keys) ≡ true
    → IsRowAnswer t bytes (Some (record { name = text_at t bytes; file = number_at 2 4 bytes; private = private_of bytes; at = number_at 4 8 bytes }))
row_known t bytes fits any number known =
    let text = text_at t bytes in
    let private = private_of bytes in
    let member = first_pair (may_be (number_at 4 8 bytes)) (numbered_from 2 (drop 1 t.list.now)) in
    let found' : found_defines text private member ≡ true = sym (rows_after t text private (number_at 4 8 bytes) fits) ∙ known in
    let has = row_name t (number_at 4 0 bytes) fits any in
    let numbers : list_any (λ k. k == number_at 2 4 bytes) (numbers_in t.first.now) ≡ true = any-flip (number_at 2 4 bytes) (numbers_in t.first.now) ∙ sym (fits.numbers.each (number_at 2 4 bytes)) ∙ number in
    by member refl found' has.first numbers
  where
    a : ℕ
    a = number_at 4 8 bytes

    reported : (segments : List Segment) (x : ℕ × Segment) → IsFound a 2 (drop 1 segments) x → option_map_or (λ s. s.start) (segment_at segments x.0) 0 ≡ a
    reported [] x f = absurd (no_item f.place f.here)
      where
        no_item : (k : ℕ) → slice_get {X = Segment} [] k ≡ Some x.1 → ⊥
        no_item k e = cc
    reported (s ∷ segments) x f =
        let place : x.0 ≡ suc (suc f.place) = omega (arith, f.number') in
        ap (λ (n : ℕ). option_map_or (λ (u : Segment). u.start) (segment_at (s ∷ segments) n) 0) place
        ∙ ap (λ (o : Option Segment). option_map_or (λ (u : Segment). u.start) o 0) f.here
        ∙ f.start

    by : (m : Option (ℕ × Segment)) → m ≡ first_pair (may_be a) (numbered_from 2 (drop 1 t.list.now)) → found_defines (text_at t bytes) (private_of bytes) m ≡ true
        → first_pair (λ x. x.0 == number_at 4 0 bytes) (names_in t.third.now) ≡ Some (number_at 4 0 bytes, text_at t bytes) → list_any (λ k. k == number_at 2 4 bytes) (numbers_in t.first.now) ≡ true
        → IsRowAnswer t bytes (Some (record { name = text_at t bytes; file = number_at 2 4 bytes; private = private_of bytes; at = a }))
    by None is found' name numbers = absurd cc
    by (Some x) is found' name numbers =
        let found : OfferedRow = record { name = text_at t bytes; from = number_at 2 4 bytes; private = private_of bytes; segment = x.0 } in
        let f = found_is a 2 (drop 1 t.list.now) x (sym is) in (
          found,
          λ at.
              row_is (numbers_in t.first.now) (names_in t.third.now) (numbered_from 2 (drop 1 t.list.now)) at bytes
              ∙ ap (λ (o : Option (ℕ × List ℕ)). answered at (number_at 2 4 bytes) (private_of bytes) o (first_pair (may_be a) (numbered_from 2 (drop 1 t.list.now))) (list_any (λ k. k == number_at 2 4 bytes) (numbers_in t.first.now))) name
              ∙ ap (λ (o : Option (ℕ × Segment)). answered at (number_at 2 4 bytes) (private_of bytes) (Some (number_at 4 0 bytes, text_at t bytes)) o (list_any (λ k. k == number_at 2 4 bytes) (numbers_in t.first.now))) (sym is)
              ∙ ap (answered at (number_at 2 4 bytes) (private_of bytes) (Some (number_at 4 0 bytes, text_at t bytes)) (Some x)) numbers
              ∙ ap (λ (b : Bool). if b then Ok found else Err at) found',
          ap (λ (n : ℕ). at_row n) (sym (reported t.list.now x f)),
        )
      where
        at_row : ℕ → LibraryRow
        at_row n = record { name = text_at t bytes; file = number_at 2 4 bytes; private = private_of bytes; at = n }

-- ---- rows as they are returned

pub rows_equal : (name name' : List ℕ) (file file' : ℕ) (private private' : Bool) (at at' : ℕ) → name ≡ name' → file ≡ file' → private ≡ private' → at ≡ at'
    → made name file private at ≡ made name' file' private' at'
rows_equal name name' file file' private private' at at' p q r s =
    ap (λ (x : List ℕ). made x file private at) p ∙ ap (λ (x : ℕ). made name' x private at) q ∙ ap (λ (x : Bool). made name' file' x at) r ∙ ap (made name' file' private') s

pub reported_so : (t : Tables) (bytes : List ℕ) (row other : LibraryRow) → IsRowAnswer t bytes (Some row) → other ≡ row → IsRowAnswer t bytes (Some other)
reported_so t bytes row other answer same = (answer.0, answer.1, same ∙ answer.2)
