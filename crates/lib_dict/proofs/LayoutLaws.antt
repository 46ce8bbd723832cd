-- What is read of a dictionary is laid out so.
use Rattle.std.proofs.Common.{◌≡◌, ℕ, zero, suc, ◌+◌, ◌*◌, ◌/◌, ◌%◌, ◌≤◌, Bool, true, false, ltb, List, [], ◌∷◌, ◌++◌, length, take, drop, Option, Some, None, Result, Ok, Err, inl, inr, refl, sym, ap, subst, ◌∙◌, arith}
use Rattle.std.specs.Prelude.{◌||◌, ◌&&◌, not, nat_eq, nat_lt, ◌==◌, if◌then◌else◌, slice_get, option_map}
use Rattle.std.specs.List.{list_any, flat_map}
use Rattle.std.specs.Str.{bytes_eq}
use Rattle.std.proofs.lemmas.Bool.{eqb-true, eqb-false, ltb-false, and_parts}
use Rattle.std.proofs.lemmas.List.{length-append, length-take, length-drop}
use Rattle.std.proofs.lemmas.List.Concat.{flat_map-cons}
use Rattle.byteorder.specs.Endian.{little_number}
use Rattle.omf_format.specs.Number.{number_at}
use Rattle.omf_format.specs.Field.{◌>>=◌}
use Rattle.omf_format.specs.laws.FieldLaws.{bind_ok}
use Rattle.omf_format.specs.Header.{form_of}
use Rattle.omf_format.specs.Record.{Record, End, Const, LongConst, Align, Org, Space, Reloc, InterSeg, ShortReloc, ShortInterSeg, Super, Using, Strong, Label, Equate, Formula, Entry}
use Rattle.omf_format.specs.File.{Segment, segment_at}
use Rattle.link_meaning.specs.First.{IsIn}
use Rattle.link_meaning.specs.Member.{OfferedRow, is_library}
use Rattle.object_meaning.specs.Defines.{Scope, ForSegment, ForUnit, ForAll, Definition, outer_scope, defined_in}
use Rattle.load_meaning.specs.Pathnames.{long_bytes}
use Rattle.link_meaning.specs.Dictionary.{file_numbers, names_from, numbered_from, first_pair, or_false, row_at, rows_from, rows_in, rows_of_records, rows_of}
use Rattle.link_meaning.specs.laws.Steps.{has_scope}
use Rattle.lib_dict.specs.DictionaryLayout.{counted_name, AreFileNumbers, AreNames, IsRow, AreRows, IsDictionary}

-- ---- the first record

abbrev some_numbers : List ℕ → Option (List ℕ)
some_numbers x = Some x

numbers_same : (x y : List ℕ) → some_numbers x ≡ some_numbers y → x ≡ y
numbers_same x y e = cc

little_two : (x y : ℕ) (tail : List ℕ) → little_number 2 (x ∷ y ∷ tail) ≡ little_number 2 (x ∷ y ∷ [])
little_two x y tail = refl

pub two_digits : (x y : ℕ) (tail : List ℕ) → number_at 2 0 (x ∷ y ∷ []) ≡ number_at 2 0 (x ∷ y ∷ tail)
unfolding number_at
two_digits x y tail = sym (little_two x y tail)

pub third_byte : (x y b : ℕ) (tail : List ℕ) → number_at 1 2 (x ∷ y ∷ b ∷ tail) ≡ b
unfolding number_at
third_byte x y b tail = omega arith

take-drop : (n : ℕ) (xs : List ℕ) → xs ≡ take n xs ++ drop n xs
take-drop zero xs = refl
take-drop (suc n) [] = refl
take-drop (suc n) (x ∷ xs) = ap (λ (l : List ℕ). x ∷ l) (take-drop n xs)

-- the result of one step of the definition
abbrev numbers_step : ℕ → List ℕ → Option (List ℕ)
numbers_step n bytes =
    if nat_lt (length bytes) 2 then None
    else if number_at 2 0 bytes == 0 then (if length bytes == 2 then Some [] else None)
    else if nat_lt (length bytes) 3 || nat_lt (length bytes) (3 + number_at 1 2 bytes) then None
    else option_map (λ ks. number_at 2 0 bytes ∷ ks) (file_numbers n (drop (3 + number_at 1 2 bytes) bytes))

numbers_unfold : (n : ℕ) (bytes : List ℕ) → file_numbers (suc n) bytes ≡ numbers_step n bytes
unfolding file_numbers
numbers_unfold n bytes = refl

no_fuel : (bytes numbers : List ℕ) → file_numbers zero bytes ≡ Some numbers → ⊥
unfolding file_numbers
no_fuel bytes numbers e = cc

-- the two cases in which there are numbers
record LastNumber (bytes numbers : List ℕ) : Type 0 where
  none : numbers ≡ []
  two : length bytes ≡ 2
  zero' : number_at 2 0 bytes ≡ 0

record NextNumber (n : ℕ) (bytes numbers : List ℕ) : Type 0 where
  more : List ℕ
  are : numbers ≡ number_at 2 0 bytes ∷ more
  some : number_at 2 0 bytes ≡ 0 → ⊥
  long : 3 ≤ length bytes
  whole : 3 + number_at 1 2 bytes ≤ length bytes
  rest : file_numbers n (drop (3 + number_at 1 2 bytes) bytes) ≡ Some more

data Step (n : ℕ) (bytes numbers : List ℕ) : Type 0 where
  Last : LastNumber bytes numbers → Step n bytes numbers
  Next : NextNumber n bytes numbers → Step n bytes numbers

step_of : (n : ℕ) (bytes numbers : List ℕ) → numbers_step n bytes ≡ Some numbers → Step n bytes numbers
step_of n bytes numbers e = by_short (nat_lt (length bytes) 2) e
  where
    size : ℕ
    size = 3 + number_at 1 2 bytes

    inner : Option (List ℕ)
    inner = option_map (λ ks. number_at 2 0 bytes ∷ ks) (file_numbers n (drop size bytes))

    by_more : (o : Option (List ℕ)) → o ≡ file_numbers n (drop size bytes) → option_map (λ ks. number_at 2 0 bytes ∷ ks) o ≡ Some numbers → (number_at 2 0 bytes ≡ 0 → ⊥) → 3 ≤ length bytes → size ≤ length bytes
        → Step n bytes numbers
    by_more None is e some long whole = absurd cc
    by_more (Some more) is e some long whole =
        Next (record { more = more; are = sym (numbers_same (number_at 2 0 bytes ∷ more) numbers e); some = some; long = long; whole = whole; rest = sym is })

    by_room : (s t : Bool) → s ≡ nat_lt (length bytes) 3 → t ≡ nat_lt (length bytes) size → (if s || t then None else inner) ≡ Some numbers → (number_at 2 0 bytes ≡ 0 → ⊥) → Step n bytes numbers
    by_room true t p q e some = absurd cc
    by_room false true p q e some = absurd cc
    by_room false false p q e some = by_more (file_numbers n (drop size bytes)) refl e some (ltb-false (length bytes) 3 (sym p)) (ltb-false (length bytes) size (sym q))

    by_two : (t : Bool) → t ≡ (length bytes == 2) → number_at 2 0 bytes ≡ 0 → (if t then Some [] else None) ≡ Some numbers → Step n bytes numbers
    by_two true is z e = Last (record { none = sym (numbers_same [] numbers e); two = eqb-true (length bytes) 2 (sym is); zero' = z })
    by_two false is z e = absurd cc

    by_zero : (z : Bool) → z ≡ (number_at 2 0 bytes == 0)
        → (if z then (if length bytes == 2 then Some [] else None) else (if nat_lt (length bytes) 3 || nat_lt (length bytes) size then None else inner)) ≡ Some numbers → Step n bytes numbers
    by_zero true is e = by_two (length bytes == 2) refl (eqb-true (number_at 2 0 bytes) 0 (sym is)) e
    by_zero false is e = by_room (nat_lt (length bytes) 3) (nat_lt (length bytes) size) refl refl e (eqb-false (number_at 2 0 bytes) 0 (sym is))

    by_short : (s : Bool)
        → (if s then None else (if number_at 2 0 bytes == 0 then (if length bytes == 2 then Some [] else None) else (if nat_lt (length bytes) 3 || nat_lt (length bytes) size then None else inner))) ≡ Some numbers
        → Step n bytes numbers
    by_short true e = absurd cc
    by_short false e = by_zero (number_at 2 0 bytes == 0) refl e

next_parts : (numbers bytes : List ℕ) → 3 ≤ length bytes → 3 + number_at 1 2 bytes ≤ length bytes → (number_at 2 0 bytes ≡ 0 → ⊥) → AreFileNumbers numbers (drop (3 + number_at 1 2 bytes) bytes)
    → AreFileNumbers (number_at 2 0 bytes ∷ numbers) bytes
next_parts numbers [] long whole some rest = absurd (omega arith)
next_parts numbers (x ∷ []) long whole some rest = absurd (omega arith)
next_parts numbers (x ∷ y ∷ []) long whole some rest = absurd (omega arith)
next_parts numbers (x ∷ y ∷ b ∷ tail) long whole some rest =
    let size = third_byte x y b tail in
    let name = take b tail in
    let len : length name ≡ b = omega (arith, length-take b tail, size) in
    let left : drop (3 + number_at 1 2 (x ∷ y ∷ b ∷ tail)) (x ∷ y ∷ b ∷ tail) ≡ drop b tail = ap (λ (k : ℕ). drop (3 + k) (x ∷ y ∷ b ∷ tail)) size ∙ skip b in (
      x ∷ y ∷ [],
      name,
      drop b tail,
      ap (λ (l : List ℕ). x ∷ y ∷ b ∷ l) (take-drop b tail) ∙ ap (λ (k : ℕ). x ∷ y ∷ k ∷ (name ++ drop b tail)) (sym len),
      refl,
      two_digits x y (b ∷ tail),
      some,
      subst (AreFileNumbers numbers) left rest,
    )
  where
    skip : (k : ℕ) → drop (3 + k) (x ∷ y ∷ b ∷ tail) ≡ drop k tail
    skip k = let same : 3 + k ≡ suc (suc (suc k)) = omega arith in ap (λ (m : ℕ). drop m (x ∷ y ∷ b ∷ tail)) same

are_numbers : (n : ℕ) (bytes numbers : List ℕ) → file_numbers n bytes ≡ Some numbers → AreFileNumbers numbers bytes
are_numbers zero bytes numbers e = absurd (no_fuel bytes numbers e)
are_numbers (suc n) bytes numbers e = by (step_of n bytes numbers (sym (numbers_unfold n bytes) ∙ e)) (λ more rest. are_numbers n (drop (3 + number_at 1 2 bytes) bytes) more rest)
  where
    by : Step n bytes numbers → ((more : List ℕ) → file_numbers n (drop (3 + number_at 1 2 bytes) bytes) ≡ Some more → AreFileNumbers more (drop (3 + number_at 1 2 bytes) bytes)) → AreFileNumbers numbers bytes
    by (Last last) go = subst (λ (l : List ℕ). AreFileNumbers l bytes) (sym last.none) (last.two, last.zero')
    by (Next next) go = subst (λ (l : List ℕ). AreFileNumbers l bytes) (sym next.are) (next_parts next.more bytes next.long next.whole next.some (go next.more next.rest))

-- ---- the third record

abbrev pub Placed : Type 0
Placed = List (ℕ × List ℕ)

abbrev some_placed : Placed → Option Placed
some_placed x = Some x

placed_same : (x y : Placed) → some_placed x ≡ some_placed y → x ≡ y
placed_same x y e = cc

-- names with their places, the first of them there
abbrev pub placed_from : ℕ → List (List ℕ) → Placed
placed_from at [] = []
placed_from at (name ∷ names) = (at, name) ∷ placed_from (at + 1 + length name) names

record Named (at : ℕ) (bytes : List ℕ) (placed : Placed) : Type 0 where
  names : List (List ℕ)
  text : AreNames names bytes
  are : placed ≡ placed_from at names

no_names_left : (n at : ℕ) (placed : Placed) → names_from n at [] ≡ Some placed → placed ≡ []
unfolding names_from
no_names_left zero at placed e = sym (placed_same [] placed e)
no_names_left (suc n) at placed e = sym (placed_same [] placed e)

no_name_fuel : (at b : ℕ) (bytes : List ℕ) (placed : Placed) → names_from zero at (b ∷ bytes) ≡ Some placed → ⊥
unfolding names_from
no_name_fuel at b bytes placed e = cc

record NextName (n at b : ℕ) (bytes : List ℕ) (placed : Placed) : Type 0 where
  within : b ≤ length bytes
  more : Placed
  rest : names_from n (at + 1 + b) (drop b bytes) ≡ Some more
  are : placed ≡ (at, take b bytes) ∷ more

next_name : (n at b : ℕ) (bytes : List ℕ) (placed : Placed) → names_from (suc n) at (b ∷ bytes) ≡ Some placed → NextName n at b bytes placed
unfolding names_from
next_name n at b bytes placed e = by (ltb (length bytes) b) refl e
  where
    by_more : (o : Option Placed) → o ≡ names_from n (at + 1 + b) (drop b bytes) → b ≤ length bytes → option_map (λ names. (at, take b bytes) ∷ names) o ≡ Some placed → NextName n at b bytes placed
    by_more None is within e = absurd cc
    by_more (Some more) is within e = record { within = within; more = more; rest = sym is; are = sym (placed_same ((at, take b bytes) ∷ more) placed e) }

    by : (t : Bool) → t ≡ ltb (length bytes) b → (if t then None else option_map (λ names. (at, take b bytes) ∷ names) (names_from n (at + 1 + b) (drop b bytes))) ≡ Some placed → NextName n at b bytes placed
    by true is e = absurd cc
    by false is e = by_more (names_from n (at + 1 + b) (drop b bytes)) refl (ltb-false (length bytes) b (sym is)) e

are_named : (n at : ℕ) (bytes : List ℕ) (placed : Placed) → names_from n at bytes ≡ Some placed → Named at bytes placed
are_named n at [] placed e = record { names = []; text = refl; are = no_names_left n at placed e }
are_named zero at (b ∷ bytes) placed e = absurd (no_name_fuel at b bytes placed e)
are_named (suc n) at (b ∷ bytes) placed e =
    let step = next_name n at b bytes placed e in
    let more = are_named n (at + 1 + b) (drop b bytes) step.more step.rest in
    let name = take b bytes in
    let len : length name ≡ b = omega (arith, length-take b bytes, step.within) in
    record {
      names = name ∷ more.names;
      text =
          ap (λ (l : List ℕ). b ∷ l) (take-drop b bytes)
          ∙ ap (λ (l : List ℕ). b ∷ (name ++ l)) more.text
          ∙ ap (λ (k : ℕ). k ∷ (name ++ flat_map counted_name more.names)) (sym len)
          ∙ sym (flat_map-cons counted_name name more.names);
      are = step.are ∙ ap (λ (l : Placed). (at, name) ∷ l) (more.are ∙ ap (λ (k : ℕ). placed_from (at + 1 + k) more.names) (sym len));
    }

-- ---- what is found

-- a name that is found starts there
starts : (names : List (List ℕ)) (at d : ℕ) (x : ℕ × List ℕ) → first_pair (λ y. y.0 == d) (placed_from at names) ≡ Some x
    → (before : List (List ℕ)) × (following : List (List ℕ)) × (names ≡ before ++ x.1 ∷ following) × (d ≡ at + length (flat_map counted_name before))
starts [] at d x e = absurd cc
starts (name ∷ names) at d x e = by (at == d) refl e (starts names (at + 1 + length name) d x)
  where
    some : ℕ × List ℕ → Option (ℕ × List ℕ)
    some y = Some y

    some_same : (a b : ℕ × List ℕ) → some a ≡ some b → a ≡ b
    some_same a b e = cc

    by : (t : Bool) → t ≡ (at == d) → (if t then Some (at, name) else first_pair (λ y. y.0 == d) (placed_from (at + 1 + length name) names)) ≡ Some x
        → (first_pair (λ y. y.0 == d) (placed_from (at + 1 + length name) names) ≡ Some x
        → (before : List (List ℕ)) × (following : List (List ℕ)) × (names ≡ before ++ x.1 ∷ following) × (d ≡ at + 1 + length name + length (flat_map counted_name before)))
        → (before : List (List ℕ)) × (following : List (List ℕ)) × (name ∷ names ≡ before ++ x.1 ∷ following) × (d ≡ at + length (flat_map counted_name before))
    by true is e go =
        let same = some_same (at, name) x e in
        ([], names, ap (λ (y : ℕ × List ℕ). y.1 ∷ names) same, omega (arith, eqb-true at d (sym is)))
    by false is e go =
        let r = go e in (
          name ∷ r.0,
          r.1,
          ap (λ (l : List (List ℕ)). name ∷ l) r.2,
          omega (arith, r.3, ap length (flat_map-cons counted_name name r.0), length-append (counted_name name) (flat_map counted_name r.0)),
        )

-- a segment that is found
record Found (at number : ℕ) (segments : List Segment) (x : ℕ × Segment) : Type 0 where
  place : ℕ
  number' : x.0 ≡ number + place
  here : slice_get segments place ≡ Some x.1
  start : x.1.start ≡ at
  other : (form_of x.1.fields.kind == 0x08) ≡ false

abbrev pub fits_row : ℕ → ℕ × Segment → Bool
fits_row at x = x.1.start == at && not (form_of x.1.fields.kind == 0x08)

found : (at number : ℕ) (segments : List Segment) (x : ℕ × Segment) → first_pair (fits_row at) (numbered_from number segments) ≡ Some x → Found at number segments x
found at number [] x e = absurd cc
found at number (s ∷ segments) x e = by (fits_row at (number, s)) refl e (found at (number + 1) segments x)
  where
    some : ℕ × Segment → Option (ℕ × Segment)
    some y = Some y

    some_same : (a b : ℕ × Segment) → some a ≡ some b → a ≡ b
    some_same a b e = cc

    not_true : (b : Bool) → not b ≡ true → b ≡ false
    not_true true e = absurd cc
    not_true false e = refl

    by : (b : Bool) → b ≡ fits_row at (number, s) → (if b then Some (number, s) else first_pair (fits_row at) (numbered_from (number + 1) segments)) ≡ Some x
        → (first_pair (fits_row at) (numbered_from (number + 1) segments) ≡ Some x → Found at (number + 1) segments x) → Found at number (s ∷ segments) x
    by true is e go =
        let both = and_parts (s.start == at) (not (form_of s.fields.kind == 0x08)) (sym is) in
        subst (Found at number (s ∷ segments)) (some_same (number, s) x e) record {
          place = 0;
          number' = omega arith;
          here = refl;
          start = eqb-true s.start at both.0;
          other = not_true (form_of s.fields.kind == 0x08) both.1;
        }
    by false is e go =
        let f = go e in
        record { place = suc f.place; number' = omega (arith, f.number'); here = f.here; start = f.start; other = f.other }

is_in : (k : ℕ) (numbers : List ℕ) → list_any (λ x. x == k) numbers ≡ true → IsIn numbers k
is_in k [] e = absurd cc
is_in k (x ∷ numbers) e = by (x == k) refl e (is_in k numbers)
  where
    by : (b : Bool) → b ≡ (x == k) → (b || list_any (λ y. y == k) numbers) ≡ true → (list_any (λ y. y == k) numbers ≡ true → IsIn numbers k) → IsIn (x ∷ numbers) k
    by true is e go = inl (eqb-true x k (sym is))
    by false is e go = inr (go e)

bytes_same : (a b : List ℕ) → bytes_eq a b ≡ true → a ≡ b
bytes_same [] [] e = refl
bytes_same [] (y ∷ b) e = absurd cc
bytes_same (x ∷ a) [] e = absurd cc
bytes_same (x ∷ a) (y ∷ b) e =
    let both = and_parts (nat_eq x y) (bytes_eq a b) e in
    ap (λ (z : ℕ). z ∷ a) (eqb-true x y both.0) ∙ ap (λ (l : List ℕ). y ∷ l) (bytes_same a b both.1)

scope_is : (private : Bool) (scope : Scope) → has_scope private scope ≡ true → scope ≡ outer_scope private
scope_is true ForUnit e = refl
scope_is false ForAll e = refl
scope_is true ForSegment e = absurd cc
scope_is false ForSegment e = absurd cc
scope_is false ForUnit e = absurd cc
scope_is true ForAll e = absurd cc

-- a definition with the name and the privacy
defined : (name : List ℕ) (private : Bool) (ds : List Definition) → list_any (λ d. bytes_eq d.name name && has_scope private d.scope) ds ≡ true
    → (d : Definition) × IsIn ds d × (d.name ≡ name) × (d.scope ≡ outer_scope private)
defined name private [] e = absurd cc
defined name private (d ∷ ds) e = by (bytes_eq d.name name && has_scope private d.scope) refl e (defined name private ds)
  where
    by : (b : Bool) → b ≡ (bytes_eq d.name name && has_scope private d.scope) → (b || list_any (λ x. bytes_eq x.name name && has_scope private x.scope) ds) ≡ true
        → (list_any (λ x. bytes_eq x.name name && has_scope private x.scope) ds ≡ true → (x : Definition) × IsIn ds x × (x.name ≡ name) × (x.scope ≡ outer_scope private))
        → (x : Definition) × IsIn (d ∷ ds) x × (x.name ≡ name) × (x.scope ≡ outer_scope private)
    by true is e go =
        let both = and_parts (bytes_eq d.name name) (has_scope private d.scope) (sym is) in
        (d, inl refl, bytes_same d.name name both.0, scope_is private d.scope both.1)
    by false is e go = let r = go e in (r.0, inr r.1, r.2, r.3)

-- ---- a row

abbrev the_row : List ℕ → ℕ × List ℕ → ℕ × Segment → OfferedRow
the_row bytes name member = record { name = name.1; from = number_at 2 4 bytes; private = not (number_at 2 6 bytes == 0); segment = member.0 }

record RowParts (numbers : List ℕ) (placed : Placed) (members : List (ℕ × Segment)) (bytes : List ℕ) (row : OfferedRow) : Type 0 where
  name : ℕ × List ℕ
  named : first_pair (λ x. x.0 == number_at 4 0 bytes) placed ≡ Some name
  member : ℕ × Segment
  found' : first_pair (fits_row (number_at 4 8 bytes)) members ≡ Some member
  number : list_any (λ k. k == number_at 2 4 bytes) numbers ≡ true
  defines : list_any (λ d. bytes_eq d.name name.1 && has_scope (not (number_at 2 6 bytes == 0)) d.scope) (defined_in member.1) ≡ true
  is : row ≡ the_row bytes name member

row_parts : (numbers : List ℕ) (placed : Placed) (members : List (ℕ × Segment)) (at : ℕ) (bytes : List ℕ) (row : OfferedRow) → row_at numbers placed members at bytes ≡ Ok row → RowParts numbers placed members bytes row
unfolding row_at
row_parts numbers placed members at bytes row e = by_name (first_pair (λ x. x.0 == number_at 4 0 bytes) placed) (first_pair (fits_row (number_at 4 8 bytes)) members) refl refl e
  where
    done : OfferedRow → Result OfferedRow ℕ
    done r = Ok r

    done_same : (a b : OfferedRow) → done a ≡ done b → a ≡ b
    done_same a b e = cc

    any : Bool
    any = list_any (λ k. k == number_at 2 4 bytes) numbers

    so : ℕ × List ℕ → ℕ × Segment → Bool
    so name member = list_any (λ d. bytes_eq d.name name.1 && has_scope (not (number_at 2 6 bytes == 0)) d.scope) (defined_in member.1)

    by_test : (name : ℕ × List ℕ) (member : ℕ × Segment) (p q : Bool) → p ≡ any → q ≡ so name member → first_pair (λ x. x.0 == number_at 4 0 bytes) placed ≡ Some name → first_pair (fits_row (number_at 4 8 bytes)) members ≡ Some member
        → (if p && q then done (the_row bytes name member) else Err at) ≡ Ok row → RowParts numbers placed members bytes row
    by_test name member true true p q n m e = record { name = name; named = n; member = member; found' = m; number = sym p; defines = sym q; is = sym (done_same (the_row bytes name member) row e) }
    by_test name member true false p q n m e = absurd cc
    by_test name member false q p' q' n m e = absurd cc

    by_name : (name : Option (ℕ × List ℕ)) (member : Option (ℕ × Segment)) → first_pair (λ x. x.0 == number_at 4 0 bytes) placed ≡ name → first_pair (fits_row (number_at 4 8 bytes)) members ≡ member
        → (or_false at name >>= λ n. or_false at member >>= λ m. if any && so n m then done (the_row bytes n m) else Err at) ≡ Ok row → RowParts numbers placed members bytes row
    by_name None member n m e = absurd cc
    by_name (Some name) None n m e = absurd cc
    by_name (Some name) (Some member) n m e = by_test name member any (so name member) refl refl n m e

is_row : (s : Segment) (others : List Segment) (numbers : List ℕ) (names : List (List ℕ)) (at : ℕ) (bytes : List ℕ) (row : OfferedRow)
    → row_at numbers (placed_from 0 names) (numbered_from 2 others) at bytes ≡ Ok row → IsRow (s ∷ others) numbers names bytes row
is_row s others numbers names at bytes row e =
    let p = row_parts numbers (placed_from 0 names) (numbered_from 2 others) at bytes row e in
    let st = starts names 0 (number_at 4 0 bytes) p.name p.named in
    let f = found (number_at 4 8 bytes) 2 others p.member p.found' in
    let d = defined p.name.1 (not (number_at 2 6 bytes == 0)) (defined_in p.member.1) p.defines in
    let place : p.member.0 ≡ suc (suc f.place) = omega (arith, f.number') in
    subst (IsRow (s ∷ others) numbers names bytes) (sym p.is) record {
      name = record { before = st.0; following = st.1; parts = st.2; place = omega (arith, st.3) };
      from = refl;
      known = is_in (number_at 2 4 bytes) numbers p.number;
      private = refl;
      segment = p.member.1;
      here = ap (segment_at (s ∷ others)) place ∙ f.here;
      following = omega (arith, place);
      start = f.start;
      other = eqb-false (form_of p.member.1.fields.kind) 8 f.other;
      defines = record { by = d.0; among = d.1; name' = d.2; scope = d.3 };
    }

-- ---- the second record

record RowsParts (n : ℕ) (numbers : List ℕ) (placed : Placed) (members : List (ℕ × Segment)) (at : ℕ) (bytes : List ℕ) (rows : List OfferedRow) : Type 0 where
  row : OfferedRow
  first : row_at numbers placed members at (take 12 bytes) ≡ Ok row
  more : List OfferedRow
  rest : rows_from n numbers placed members (at + 12) (drop 12 bytes) ≡ Ok more
  are : rows ≡ row ∷ more

abbrev done_rows : List OfferedRow → Result (List OfferedRow) ℕ
done_rows rows = Ok rows

rows_same : (x y : List OfferedRow) → done_rows x ≡ done_rows y → x ≡ y
rows_same x y e = cc

rows_parts : (n : ℕ) (numbers : List ℕ) (placed : Placed) (members : List (ℕ × Segment)) (at : ℕ) (bytes : List ℕ) (rows : List OfferedRow) → rows_from (suc n) numbers placed members at bytes ≡ Ok rows
    → RowsParts n numbers placed members at bytes rows
unfolding rows_from
rows_parts n numbers placed members at bytes rows e =
    let first = bind_ok (row_at numbers placed members at (take 12 bytes)) (λ row. rows_from n numbers placed members (at + 12) (drop 12 bytes) >>= λ more. Ok (row ∷ more)) rows e in
    let rest = bind_ok (rows_from n numbers placed members (at + 12) (drop 12 bytes)) (λ more. done_rows (first.0 ∷ more)) rows first.2 in
    record { row = first.0; first = first.1; more = rest.0; rest = rest.1; are = sym (rows_same (first.0 ∷ rest.0) rows rest.2) }

rows_none : (numbers : List ℕ) (placed : Placed) (members : List (ℕ × Segment)) (at : ℕ) (bytes : List ℕ) (rows : List OfferedRow) → rows_from zero numbers placed members at bytes ≡ Ok rows → rows ≡ []
unfolding rows_from
rows_none numbers placed members at bytes rows e = sym (rows_same [] rows e)

nil_of : (xs : List ℕ) → length xs ≡ 0 → xs ≡ []
nil_of [] e = refl
nil_of (x ∷ xs) e = absurd (omega arith)

are_rows : (n : ℕ) (s : Segment) (others : List Segment) (numbers : List ℕ) (names : List (List ℕ)) (at : ℕ) (bytes : List ℕ) (rows : List OfferedRow) → length bytes ≡ 12 * n
    → rows_from n numbers (placed_from 0 names) (numbered_from 2 others) at bytes ≡ Ok rows → AreRows (s ∷ others) numbers names rows bytes
are_rows zero s others numbers names at bytes rows size e =
    subst (λ (l : List OfferedRow). AreRows (s ∷ others) numbers names l bytes) (sym (rows_none numbers (placed_from 0 names) (numbered_from 2 others) at bytes rows e)) (nil_of bytes (omega (arith, size)))
are_rows (suc n) s others numbers names at bytes rows size e =
    let p = rows_parts n numbers (placed_from 0 names) (numbered_from 2 others) at bytes rows e in
    let rest = are_rows n s others numbers names (at + 12) (drop 12 bytes) p.more (omega (arith, length-drop 12 bytes, size)) p.rest in
    subst (λ (l : List OfferedRow). AreRows (s ∷ others) numbers names l bytes) (sym p.are)
    (take 12 bytes, drop 12 bytes, take-drop 12 bytes, omega (arith, length-take 12 bytes, size), is_row s others numbers names at (take 12 bytes) p.row p.first, rest)

-- ---- the three records

or_ok : {A : Type 0} (at : ℕ) (o : Option A) (x : A) → or_false at o ≡ Ok x → o ≡ Some x
or_ok at None x e = absurd cc
or_ok at (Some y) x e = ap (λ z. Some z) (ok_is y x e)
  where
    ok_is : {A : Type 0} (y x : A) → or_false 0 (Some y) ≡ or_false 0 (Some x) → y ≡ x
    ok_is y x e = cc

long_is : (r : Record) (bytes : List ℕ) → long_bytes r ≡ Some bytes → r ≡ LongConst bytes
long_is (LongConst text) bytes e = ap LongConst (numbers_same text bytes e)
long_is End bytes e = absurd cc
long_is (Const text) bytes e = absurd cc
long_is (Align n) bytes e = absurd cc
long_is (Org n) bytes e = absurd cc
long_is (Space n) bytes e = absurd cc
long_is (Reloc count shift location offset) bytes e = absurd cc
long_is (InterSeg count shift location file segment offset) bytes e = absurd cc
long_is (ShortReloc count shift location offset) bytes e = absurd cc
long_is (ShortInterSeg count shift location segment offset) bytes e = absurd cc
long_is (Super form text) bytes e = absurd cc
long_is (Using name) bytes e = absurd cc
long_is (Strong name) bytes e = absurd cc
long_is (Label global name size form private) bytes e = absurd cc
long_is (Equate global name size form private expr) bytes e = absurd cc
long_is (Formula code count n expr) bytes e = absurd cc
long_is (Entry segment offset name) bytes e = absurd cc

pub record InParts (s : Segment) (others : List Segment) (first second third : List ℕ) (rows : List OfferedRow) : Type 0 where
  pub numbers : List ℕ
  pub files : AreFileNumbers numbers first
  pub names : List (List ℕ)
  pub named : AreNames names third
  pub rows' : AreRows (s ∷ others) numbers names rows second

pub in_parts : (s : Segment) (others : List Segment) (at : ℕ) (first second third : List ℕ) (rows : List OfferedRow) → rows_in s.start at first second third others ≡ Ok rows → InParts s others first second third rows
unfolding rows_in
in_parts s others at first second third rows e =
    let one = bind_ok (or_false s.start (file_numbers (length first) first)) _ rows e in
    let two = bind_ok (or_false s.start (if length second % 12 == 0 then Some second else None)) _ rows one.2 in
    let three = bind_ok (or_false s.start (names_from (length third) 0 third)) _ rows two.2 in
    let named = are_named (length third) 0 third three.0 (or_ok s.start (names_from (length third) 0 third) three.0 three.1) in
    let whole = by (length second % 12 == 0) refl two.0 (or_ok s.start (if length second % 12 == 0 then Some second else None) two.0 two.1) in
    let size : length second ≡ 12 * (length second / 12) = omega (arith, whole.0) in
    let rows' : rows_from (length second / 12) one.0 (placed_from 0 named.names) (numbered_from 2 others) (at + 5) second ≡ Ok rows =
    ap (λ (p : Placed). rows_from (length second / 12) one.0 p (numbered_from 2 others) (at + 5) second) (sym named.are)
    ∙ ap (rows_from (length second / 12) one.0 three.0 (numbered_from 2 others) (at + 5)) (sym whole.1)
    ∙ three.2 in
    record {
      numbers = one.0;
      files = are_numbers (length first) first one.0 (or_ok s.start (file_numbers (length first) first) one.0 one.1);
      names = named.names;
      named = named.text;
      rows' = are_rows (length second / 12) s others one.0 named.names (at + 5) second rows size rows';
    }
  where
    by : (t : Bool) → t ≡ (length second % 12 == 0) → (x : List ℕ) → (if t then Some second else None) ≡ Some x → (length second % 12 ≡ 0) × (x ≡ second)
    by true is x e = (eqb-true (length second % 12) 0 (sym is), sym (numbers_same second x e))
    by false is x e = absurd cc

-- ---- the dictionary

dictionary_is : (s : Segment) (others : List Segment) (records : List (ℕ × Record)) (rows : List OfferedRow) → s.records ≡ records → rows_of_records s.start records others ≡ Ok rows → IsDictionary (s ∷ others) rows
dictionary_is s others [] rows are e = absurd cc
dictionary_is s others (a ∷ []) rows are e = absurd cc
dictionary_is s others (a ∷ b ∷ []) rows are e = absurd cc
dictionary_is s others (a ∷ b ∷ c ∷ []) rows are e = absurd cc
dictionary_is s others (a ∷ b ∷ c ∷ e' ∷ f ∷ more) rows are e = absurd cc
dictionary_is s others (a ∷ b ∷ c ∷ e' ∷ []) rows are e =
    let one = bind_ok (or_false s.start (long_bytes a.1)) _ rows e in
    let two = bind_ok (or_false s.start (long_bytes b.1)) _ rows one.2 in
    let three = bind_ok (or_false s.start (long_bytes c.1)) _ rows two.2 in
    let p = in_parts s others b.0 one.0 two.0 three.0 rows three.2 in
    let first = long_is a.1 one.0 (or_ok s.start (long_bytes a.1) one.0 one.1) in
    let second = long_is b.1 two.0 (or_ok s.start (long_bytes b.1) two.0 two.1) in
    let third = long_is c.1 three.0 (or_ok s.start (long_bytes c.1) three.0 three.1) in
    record {
      dictionary = s;
      others = others;
      parts = refl;
      a = a.0;
      first = one.0;
      b = b.0;
      second = two.0;
      c = c.0;
      third = three.0;
      e = e';
      records =
          are
          ∙ ap (λ (r : Record). (a.0, r) ∷ b ∷ c ∷ e' ∷ []) first
          ∙ ap (λ (r : Record). (a.0, LongConst one.0) ∷ (b.0, r) ∷ c ∷ e' ∷ []) second
          ∙ ap (λ (r : Record). (a.0, LongConst one.0) ∷ (b.0, LongConst two.0) ∷ (c.0, r) ∷ e' ∷ []) third;
      numbers = p.numbers;
      files = p.files;
      names = p.names;
      named = p.named;
      rows' = p.rows';
    }

pub rows_are_laid_out : (segments : List Segment) (rows : List OfferedRow) → is_library segments ≡ true → rows_of segments ≡ Ok rows → IsDictionary segments rows
unfolding rows_of
rows_are_laid_out [] rows library e = absurd cc
rows_are_laid_out (s ∷ others) rows library e = dictionary_is s others s.records rows refl e
