-- Each member of a linked list is in one of the files, and passes the checks of reading.
use Rattle.std.proofs.Common.{◌≡◌, ℕ, zero, suc, ◌+◌, ◌-◌, ◌/◌, ◌%◌, ◌^◌, ◌<◌, ◌≤◌, Bool, true, false, eqb, List, [], ◌∷◌, ◌++◌, length, take, drop, Option, Some, None, refl, sym, ap, subst, ◌∙◌, arith, inl, inr}
use Rattle.std.specs.Prelude.{◌⊎◌, ◌&&◌, ◌==◌, not, cond, option_map, slice_get, filter_map, Result, Ok, Err}
use Rattle.std.specs.Option.{option_or}
use Rattle.std.specs.List.{AllByRecursion}
use Rattle.std.proofs.lemmas.Bool.{eqb-true, and_parts, not-true}
use Rattle.std.proofs.lemmas.List.{length-take, length-drop}
use Rattle.byteorder.specs.Numbers.{little_from-lt}
use Rattle.omf_format.specs.Number.{number_at}
use Rattle.omf_format.specs.Field.{◌>>=◌, layout_of}
use Rattle.omf_format.specs.laws.FieldLaws.{IsBytes-drop, IsBytes-take, kind_of-lt, bind_ok}
use Rattle.omf_format.specs.Header.{HeaderFields, fields_of, names_end, form_of, is_listed}
use Rattle.omf_format.specs.Number.{IsBytes}
use Rattle.omf_format.specs.laws.HeaderLaws.{IsSound, sound_from_none}
use Rattle.omf_format.specs.Record.{Record, IsRecord}
use Rattle.omf_format.specs.Reading.{Reader, HandsOut}
use Rattle.omf_format.specs.laws.BodyLaws.{handed_out}
use Rattle.omf_format.specs.File.{Segment, body_reader, IsSegment, AreSegments}
use Rattle.load_meaning.specs.laws.LoadTableLaws.{first_of-none}
use Rattle.link_meaning.specs.declared.fault.LinkCause.{LinkCause}
use Rattle.link_meaning.specs.declared.fault.LinkCause.TheVariants.{Unsupported, BadRecord}
use Rattle.link_meaning.specs.First.{IsIn, first_some}
use Rattle.object_meaning.specs.Sizes.{body_size}
use Rattle.link_meaning.specs.Member.{OfferedRow, Input, Member, is_library, members_from, objects_from, objects, Offer, offer_of, offers_from, library_offers, LinkSetting}
use Rattle.link_meaning.specs.Uses.{Use}
use Rattle.link_meaning.specs.Search.{FoundDefinition}
use Rattle.link_meaning.specs.LinkedList.{first_offer, row_for, wanted_by, PlacedUse, all_uses, wanted, Follow}
use Rattle.load_meaning.specs.Pathnames.{long_bytes}
use Rattle.link_meaning.specs.Dictionary.{first_pair, or_false, numbered_from, file_numbers, names_from, row_at, rows_from, rows_in, rows_of_records, rows_of}
use Rattle.link_meaning.specs.LinkFaults.{LinkInput, HasBytes, type_fault, rows_in_file, segment_fault, segments_fault, AreInputs, IsProgram}
use Rattle.link_meaning.specs.laws.Steps.{with_place, unless_found}

-- ---- lists

in-append : {A : Type 0} (xs ys : List A) (x : A) → IsIn (xs ++ ys) x → IsIn xs x ⊎ IsIn ys x
in-append [] ys x is = inr is
in-append (y ∷ xs) ys x (inl e) = inl (inl e)
in-append (y ∷ xs) ys x (inr more) = elim (in-append xs ys x more) [
  | inl h ↦ inl (inr h)
  | inr h ↦ inr h
]

pub in_at : {A : Type 0} (xs : List A) (k : ℕ) (x : A) → slice_get xs k ≡ Some x → IsIn xs x
in_at [] k x e = absurd cc
in_at {A} (y ∷ ys) zero x e = inl (same y x e)
  where
    same : (y x : A) → slice_get (y ∷ []) 0 ≡ Some x → y ≡ x
    same y x e = cc
in_at (y ∷ ys) (suc k) x e = inr (in_at ys k x e)

or_none : {A : Type 0} (a b : Option A) → option_or a b ≡ None → (a ≡ None) × (b ≡ None)
or_none None b e = (refl, e)
or_none (Some x) b e = absurd cc

or_some : {A : Type 0} (a b : Option A) (x : A) → option_or a b ≡ Some x → (a ≡ Some x) ⊎ (b ≡ Some x)
or_some None b x e = inr e
or_some (Some y) b x e = inl e

map_none : {A B : Type 0} (f : A → B) (o : Option A) → option_map f o ≡ None → o ≡ None
map_none f None e = refl
map_none f (Some x) e = absurd cc

-- ---- a segment that was read

-- the segment is in a file of bytes, and passes the checks of reading
pub record IsRead (s : Segment) : Type 0 where
  pub file : List ℕ
  pub bytes : IsBytes file
  pub is : IsSegment s file
  pub first : Bool
  pub sound : segment_fault first s ≡ None
  pub no_dictionary : (form_of s.fields.kind == 0x08) ≡ false

pub of_file : (segments : List Segment) (at : ℕ) (file : List ℕ) (next : ℕ) (s : Segment) → AreSegments segments at file next → IsIn segments s → IsSegment s file
of_file [] at file next s are is = absurd is
of_file (t ∷ segments) at file next s are (inl e) = subst (λ (u : Segment). IsSegment u file) e are.2
of_file (t ∷ segments) at file next s are (inr more) = of_file segments (at + t.fields.byte_count) file next s are.3 more

of_faults : (number : ℕ) (segments : List Segment) (s : Segment) → segments_fault number segments ≡ None → IsIn segments s → (first : Bool) × (segment_fault first s ≡ None)
of_faults number [] s e is = absurd is
of_faults number (t ∷ segments) s e (inl same) =
    let both = or_none (option_map (λ (found : LinkCause × ℕ). (number, found)) (segment_fault (eqb number 1) t)) (segments_fault (number + 1) segments) e in
    (eqb number 1, ap (segment_fault (eqb number 1)) (sym same) ∙ map_none (λ (found : LinkCause × ℕ). (number, found)) (segment_fault (eqb number 1) t) both.0)
of_faults number (t ∷ segments) s e (inr more) =
    let both = or_none (option_map (λ (found : LinkCause × ℕ). (number, found)) (segment_fault (eqb number 1) t)) (segments_fault (number + 1) segments) e in
    of_faults (number + 1) segments s both.1 more

-- a sound segment's type
types : (s : Segment) (first : Bool) → segment_fault first s ≡ None → ((form_of s.fields.kind == 0x02) ≡ false) × ((form_of s.fields.kind == 0x04) ≡ false) × ((form_of s.fields.kind == 0x08 && not first) ≡ false)
unfolding segment_fault
types s first e =
    let none = map_none (with_place s.start) (type_fault first s.fields) (or_none (option_map (with_place s.start) (type_fault first s.fields)) _ e).0 in
    let a = first_of-none (form_of s.fields.kind == 0x02) Unsupported ((form_of s.fields.kind == 0x04, Unsupported) ∷ (form_of s.fields.kind == 0x08 && not first, BadRecord) ∷ []) none in
    let b = first_of-none (form_of s.fields.kind == 0x04) Unsupported ((form_of s.fields.kind == 0x08 && not first, BadRecord) ∷ []) a.1 in
    let c = first_of-none (form_of s.fields.kind == 0x08 && not first) BadRecord [] b.1 in
    (a.0, b.0, c.0)

-- the segment is one of an input: of an object file, or one of a library that is no dictionary
record IsOf (inputs : List Input) (s : Segment) : Type 0 where
  input : Input
  among : IsIn inputs input
  is : IsIn input.segments s
  kind : (is_library input.segments ≡ false) ⊎ ((form_of s.fields.kind == 0x08) ≡ false)

abbrev with_number : ℕ → LinkCause × ℕ → ℕ × (LinkCause × ℕ)
with_number number found = (number, found)

-- after the first segment no dictionary is sound
no_dictionaries : (number : ℕ) (segments : List Segment) (s : Segment) → segments_fault number segments ≡ None → (number ≡ 1 → is_library segments ≡ false) → 1 ≤ number → IsIn segments s → (form_of s.fields.kind == 0x08) ≡ false
no_dictionaries number [] s e first some is = absurd is
no_dictionaries number (t ∷ segments) s e first some is = by_place is (no_dictionaries (number + 1) segments s both.1 (λ one. absurd (omega (arith, one, some))) (omega arith))
  where
    both : (option_map (with_number number) (segment_fault (number == 1) t) ≡ None) × (segments_fault (number + 1) segments ≡ None)
    both = or_none (option_map (with_number number) (segment_fault (number == 1) t)) (segments_fault (number + 1) segments) e

    of_type : (b : Bool) → (number == 1) ≡ b → (form_of t.fields.kind == 0x08) ≡ false
    of_type true one = first (eqb-true number 1 one)
    of_type false other = no_type (form_of t.fields.kind == 0x08) ((types t (number == 1) (map_none (with_number number) (segment_fault (number == 1) t) both.0)).2) other
      where
        no_type : (d : Bool) → (d && not (number == 1)) ≡ false → (number == 1) ≡ false → d ≡ false
        no_type d clear is = by_bool d (ap (λ (x : Bool). d && not x) (sym is) ∙ clear)
          where
            by_bool : (d : Bool) → (d && true) ≡ false → d ≡ false
            by_bool true clash = clash
            by_bool false same = refl

    by_place : (t ≡ s) ⊎ IsIn segments s → (IsIn segments s → (form_of s.fields.kind == 0x08) ≡ false) → (form_of s.fields.kind == 0x08) ≡ false
    by_place (inl same) go = ap (λ (x : Segment). form_of x.fields.kind == 0x08) (sym same) ∙ of_type (number == 1) refl
    by_place (inr more) go = go more

of_inputs : (files : List (List ℕ)) (inputs : List Input) (s : Segment) → AllByRecursion IsBytes files → AreInputs files inputs → IsOf inputs s → IsRead s
of_inputs [] [] s bytes are of = absurd of.among
of_inputs [] (input ∷ inputs) s bytes are of = absurd are
of_inputs (file ∷ files) [] s bytes are of = absurd are
of_inputs (file ∷ files) (input ∷ inputs) s bytes are of = by_place of.among (λ o. of_inputs files inputs s bytes.1 are.1 o)
  where
    by_place : (input ≡ of.input) ⊎ IsIn inputs of.input → (IsOf inputs s → IsRead s) → IsRead s
    by_place (inl e) go =
        let there : IsIn input.segments s = subst (λ (i : Input). IsIn i.segments s) (sym e) of.is in
        let sound = of_faults 1 input.segments s are.0.sound there in
        let kind = subst (λ (i : Input). (is_library i.segments ≡ false) ⊎ ((form_of s.fields.kind == 0x08) ≡ false)) (sym e) of.kind in
        record { file = file; bytes = bytes.0; is = of_file input.segments 0 file (length file) s are.0.is_file there; first = sound.0; sound = sound.1; no_dictionary = by_kind there kind }
      where
        by_kind : IsIn input.segments s → (is_library input.segments ≡ false) ⊎ ((form_of s.fields.kind == 0x08) ≡ false) → (form_of s.fields.kind == 0x08) ≡ false
        by_kind there (inl object) = no_dictionaries 1 input.segments s are.0.sound (λ one. object) (omega arith) there
        by_kind there (inr other) = other
    by_place (inr more) go = go (record { input = of.input; among = more; is = of.is; kind = of.kind })

later : (input : Input) (inputs : List Input) (s : Segment) → IsOf inputs s → IsOf (input ∷ inputs) s
later input inputs s of = record { input = of.input; among = inr of.among; is = of.is; kind = of.kind }

here_is : (input : Input) (inputs : List Input) (s : Segment) → IsIn input.segments s → (is_library input.segments ≡ false) ⊎ ((form_of s.fields.kind == 0x08) ≡ false) → IsOf (input ∷ inputs) s
here_is input inputs s is kind = record { input = input; among = inl refl; is = is; kind = kind }

-- ---- the members of object files

from_members : (setting : LinkSetting) (file number : ℕ) (segments : List Segment) (m : Member) → IsIn (members_from setting file number segments) m → IsIn segments m.segment
from_members setting file number [] m is = is
from_members setting file number (s ∷ segments) m (inl e) = inl (ap (λ (x : Member). x.segment) e)
from_members setting file number (s ∷ segments) m (inr more) = inr (from_members setting file (number + 1) segments m more)

from_objects : (setting : LinkSetting) (file : ℕ) (inputs : List Input) (m : Member) → IsIn (objects_from setting file inputs) m → IsOf inputs m.segment
from_objects setting file [] m is = absurd is
from_objects setting file (input ∷ inputs) m is = elim (in-append (cond (is_library input.segments) [] (members_from setting file 1 input.segments)) (objects_from setting (file + 1) inputs) m is) [
  | inl h ↦ by_library (is_library input.segments) refl h
  | inr h ↦ later input inputs m.segment (from_objects setting (file + 1) inputs m h)
]
  where
    by_library : (b : Bool) → is_library input.segments ≡ b → IsIn (cond b [] (members_from setting file 1 input.segments)) m → IsOf (input ∷ inputs) m.segment
    by_library true is h = absurd h
    by_library false is h = here_is input inputs m.segment (from_members setting file 1 input.segments m h) (inl is)

-- ---- those of libraries

pub from_filter : {A B : Type 0} (f : A → Option B) (xs : List A) (y : B) → IsIn (filter_map f xs) y → (x : A) × IsIn xs x × (f x ≡ Some y)
from_filter f [] y is = absurd is
from_filter {A} {B} f (x ∷ xs) y is = by_answer (f x) refl (λ more. from_filter f xs y more)
  where
    by_place : (z : B) → f x ≡ Some z → (z ≡ y) ⊎ IsIn (filter_map f xs) y → (IsIn (filter_map f xs) y → (w : A) × IsIn xs w × (f w ≡ Some y)) → (w : A) × IsIn (x ∷ xs) w × (f w ≡ Some y)
    by_place z e (inl same) go = (x, inl refl, e ∙ ap (λ (w : B). Some w) same)
    by_place z e (inr more) go = let rest = go more in (rest.0, inr rest.1, rest.2)

    by_answer : (o : Option B) → f x ≡ o → (IsIn (filter_map f xs) y → (w : A) × IsIn xs w × (f w ≡ Some y)) → (w : A) × IsIn (x ∷ xs) w × (f w ≡ Some y)
    by_answer None e go = let rest = go (rw e at is) in (rest.0, inr rest.1, rest.2)
    by_answer (Some z) e go = by_place z e (rw e at is) go

one_offer : (a b : Offer) → Some a ≡ Some b → a ≡ b
one_offer a b e = cc

-- ---- rows

first_of_pairs : {A : Type 0} (test : (ℕ × A) → Bool) (xs : List (ℕ × A)) (x : ℕ × A) → first_pair test xs ≡ Some x → IsIn xs x × (test x ≡ true)
first_of_pairs test [] x e = absurd cc
first_of_pairs {A} test (y ∷ xs) x e = by_test (test y) refl e (λ more. first_of_pairs test xs x more)
  where
    same_pair : (a b : ℕ × A) → Some a ≡ Some b → a ≡ b
    same_pair a b e = cc

    by_test : (b : Bool) → test y ≡ b → cond b (Some y) (first_pair test xs) ≡ Some x → (first_pair test xs ≡ Some x → IsIn xs x × (test x ≡ true)) → IsIn (y ∷ xs) x × (test x ≡ true)
    by_test true is e go = let same = same_pair y x e in (inl same, ap test (sym same) ∙ is)
    by_test false is e go = let rest = go e in (inr rest.0, rest.1)

or_false_is : {A : Type 0} (at : ℕ) (o : Option A) (x : A) → or_false at o ≡ Ok x → o ≡ Some x
or_false_is at None x e = absurd cc
or_false_is {A} at (Some y) x e = ap (λ (z : A). Some z) (same y x e)
  where
    done : A → Result A ℕ
    done z = Ok z

    same : (a b : A) → done a ≡ done b → a ≡ b
    same a b e = cc

-- the numbers are those of the segments
numbered_at : (number : ℕ) (segments : List Segment) (x : ℕ × Segment) → IsIn (numbered_from number segments) x → (k : ℕ) × (x.0 ≡ number + k) × (slice_get segments k ≡ Some x.1)
numbered_at number [] x is = absurd is
numbered_at number (s ∷ segments) x (inl e) = (0, omega (arith, ap (λ (y : ℕ × Segment). y.0) e), ap (λ (y : ℕ × Segment). Some y.1) e)
numbered_at number (s ∷ segments) x (inr more) =
    let rest = numbered_at (number + 1) segments x more in
    (suc rest.0, omega (arith, rest.1), rest.2)

-- the row names a segment that is no dictionary
abbrev NamesMember : List Segment → OfferedRow → Type 0
NamesMember segments row = (s : Segment) × (slice_get segments (row.segment - 1) ≡ Some s) × ((form_of s.fields.kind == 0x08) ≡ false)

row_names : (numbers : List ℕ) (names : List (ℕ × List ℕ)) (d : Segment) (others : List Segment) (at : ℕ) (bytes : List ℕ) (row : OfferedRow) → row_at numbers names (numbered_from 2 others) at bytes ≡ Ok row → NamesMember (d ∷ others) row
unfolding row_at
row_names numbers names d others at bytes row e =
    let test : (ℕ × Segment) → Bool = λ x. x.1.start == number_at 4 8 bytes && not (form_of x.1.fields.kind == 0x08) in
    let name = bind_ok (or_false at (first_pair (λ x. x.0 == number_at 4 0 bytes) names)) _ row e in
    let member = bind_ok (or_false at (first_pair test (numbered_from 2 others))) _ row name.2 in
    let found = first_of_pairs test (numbered_from 2 others) member.0 (or_false_is at (first_pair test (numbered_from 2 others)) member.0 member.1) in
    let place = numbered_at 2 others member.0 found.0 in
    let kind = and_parts (member.0.1.start == number_at 4 8 bytes) (not (form_of member.0.1.fields.kind == 0x08)) found.1 in
    let number : row.segment ≡ member.0.0 = of_row _ _ (λ r. r.segment) member.2 in
    let index : row.segment - 1 ≡ suc place.0 = omega (arith, number, place.1) in
    (member.0.1, ap (slice_get (d ∷ others)) index ∙ place.2, not-true _ kind.1)
  where
    ok_row : OfferedRow → Result OfferedRow ℕ
    ok_row r = Ok r

    same_row : (a b : OfferedRow) → ok_row a ≡ ok_row b → a ≡ b
    same_row a b e = cc

    no_row : (r : OfferedRow) → Err at ≡ ok_row r → ⊥
    no_row r e = cc

    of_row : (b : Bool) (made : OfferedRow) (f : OfferedRow → ℕ) → cond b (Ok made) (Err at) ≡ Ok row → f row ≡ f made
    of_row true made f e = ap f (sym (same_row made row e))
    of_row false made f e = absurd (no_row row e)

abbrev ok_rows : List OfferedRow → Result (List OfferedRow) ℕ
ok_rows l = Ok l

same_rows : (a b : List OfferedRow) → ok_rows a ≡ ok_rows b → a ≡ b
same_rows a b e = cc

all_named : (n : ℕ) (numbers : List ℕ) (names : List (ℕ × List ℕ)) (d : Segment) (others : List Segment) (at : ℕ) (bytes : List ℕ) (rows : List OfferedRow) → rows_from n numbers names (numbered_from 2 others) at bytes ≡ Ok rows
    → (row : OfferedRow) → IsIn rows row → NamesMember (d ∷ others) row
unfolding rows_from
all_named zero numbers names d others at bytes rows e row is = absurd (subst (λ (l : List OfferedRow). IsIn l row) (sym (same_rows [] rows e)) is)
all_named (suc n) numbers names d others at bytes rows e row is =
    let first = bind_ok (row_at numbers names (numbered_from 2 others) at (take 12 bytes)) _ rows e in
    let more = bind_ok (rows_from n numbers names (numbered_from 2 others) (at + 12) (drop 12 bytes)) _ rows first.2 in
    by_place first.0 more.0 (same_rows (first.0 ∷ more.0) rows more.2) (row_names numbers names d others at (take 12 bytes) first.0 first.1) (all_named n numbers names d others (at + 12) (drop 12 bytes) more.0 more.1)
  where
    by_place : (r : OfferedRow) (l : List OfferedRow) → r ∷ l ≡ rows → NamesMember (d ∷ others) r → ((row : OfferedRow) → IsIn l row → NamesMember (d ∷ others) row) → NamesMember (d ∷ others) row
    by_place r l same here rest = go (subst (λ (k : List OfferedRow). IsIn k row) (sym same) is)
      where
        go : (r ≡ row) ⊎ IsIn l row → NamesMember (d ∷ others) row
        go (inl e) = subst (NamesMember (d ∷ others)) e here
        go (inr more) = rest row more

parts_rows : (d : Segment) (others : List Segment) (start at : ℕ) (first second third : List ℕ) (rows : List OfferedRow) → rows_in start at first second third others ≡ Ok rows → (row : OfferedRow) → IsIn rows row → NamesMember (d ∷ others) row
unfolding rows_in
parts_rows d others start at first second third rows e =
    let after_names : List ℕ → List ℕ → List (ℕ × List ℕ) → Result (List OfferedRow) ℕ = λ numbers whole names. rows_from (length second / 12) numbers names (numbered_from 2 others) (at + 5) whole in
    let after_rows : List ℕ → List ℕ → Result (List OfferedRow) ℕ = λ numbers whole. or_false start (names_from (length third) 0 third) >>= after_names numbers whole in
    let after_numbers : List ℕ → Result (List OfferedRow) ℕ = λ numbers. or_false start (cond (length second % 12 == 0) (Some second) None) >>= after_rows numbers in
    let numbers = bind_ok (or_false start (file_numbers (length first) first)) after_numbers rows e in
    let whole = bind_ok (or_false start (cond (length second % 12 == 0) (Some second) None)) (after_rows numbers.0) rows numbers.2 in
    let names = bind_ok (or_false start (names_from (length third) 0 third)) (after_names numbers.0 whole.0) rows whole.2 in
    all_named (length second / 12) numbers.0 names.0 d others (at + 5) whole.0 rows names.2

record_rows : (d : Segment) (others : List Segment) (start : ℕ) (records : List (ℕ × Record)) (rows : List OfferedRow) → rows_of_records start records others ≡ Ok rows → (row : OfferedRow) → IsIn rows row → NamesMember (d ∷ others) row
record_rows d others start [] rows e = absurd cc
record_rows d others start (a ∷ []) rows e = absurd cc
record_rows d others start (a ∷ b ∷ []) rows e = absurd cc
record_rows d others start (a ∷ b ∷ c ∷ []) rows e = absurd cc
record_rows d others start (a ∷ b ∷ c ∷ l ∷ []) rows e =
    let first = bind_ok (or_false start (long_bytes a.1)) _ rows e in
    let second = bind_ok (or_false start (long_bytes b.1)) _ rows first.2 in
    let third = bind_ok (or_false start (long_bytes c.1)) _ rows second.2 in
    parts_rows d others start b.0 first.0 second.0 third.0 rows third.2
record_rows d others start (a ∷ b ∷ c ∷ l ∷ m ∷ more) rows e = absurd cc

file_rows : (segments : List Segment) (rows : List OfferedRow) → rows_in_file segments ≡ Ok rows → (row : OfferedRow) → IsIn rows row → NamesMember segments row
unfolding rows_of
file_rows [] rows e row is = absurd (subst (λ (l : List OfferedRow). IsIn l row) (sym (same_rows [] rows e)) is)
file_rows (d ∷ others) rows e row is = by_library (form_of d.fields.kind == 0x08) e
  where
    by_library : (b : Bool) → cond b (rows_of_records d.start d.records others) (Ok []) ≡ Ok rows → NamesMember (d ∷ others) row
    by_library true e = record_rows d others d.start d.records rows e row is
    by_library false e = absurd (subst (λ (l : List OfferedRow). IsIn l row) (sym (same_rows [] rows e)) is)

one_segment : (a b : Segment) → Some a ≡ Some b → a ≡ b
one_segment a b e = cc

from_row : (setting : LinkSetting) (file : ℕ) (segments : List Segment) (row : OfferedRow) (o : Offer) → NamesMember segments row → offer_of setting file segments row ≡ Some o → IsIn segments o.member.segment × ((form_of o.member.segment.fields.kind == 0x08) ≡ false)
from_row setting file segments row o names e = by_segment (slice_get segments (row.segment - 1)) refl e
  where
    by_segment : (x : Option Segment) → slice_get segments (row.segment - 1) ≡ x
        → option_map (λ (s : Segment). record { name = row.name; private = row.private; member = record { file = file; number = row.segment; from = row.from; segment = s; setting = setting } }) x ≡ Some o → IsIn segments o.member.segment × ((form_of o.member.segment.fields.kind == 0x08) ≡ false)
    by_segment None is e = absurd cc
    by_segment (Some s) is e =
        let made : Offer = record { name = row.name; private = row.private; member = record { file = file; number = row.segment; from = row.from; segment = s; setting = setting } } in
        let same : s ≡ o.member.segment = ap (λ (x : Offer). x.member.segment) (one_offer made o e) in
        let named : names.0 ≡ s = one_segment names.0 s (sym names.1 ∙ is) in
        (in_at segments (row.segment - 1) o.member.segment (is ∙ ap (λ (t : Segment). Some t) same), ap (λ (t : Segment). form_of t.fields.kind == 0x08) (sym same ∙ sym named) ∙ names.2)

from_offers : (setting : LinkSetting) (file : ℕ) (files : List (List ℕ)) (inputs : List Input) (o : Offer) → AreInputs files inputs → IsIn (offers_from setting file inputs) o → IsOf inputs o.member.segment
from_offers setting file files [] o are is = absurd is
from_offers setting file [] (input ∷ inputs) o are is = absurd are
from_offers setting file (bytes ∷ files) (input ∷ inputs) o are is = elim (in-append (filter_map (offer_of setting file input.segments) input.rows) (offers_from setting (file + 1) inputs) o is) [
  | inl h ↦
      let row = from_filter (offer_of setting file input.segments) input.rows o h in
      let found = from_row setting file input.segments row.0 o (file_rows input.segments input.rows are.0.rows row.0 row.1) row.2 in
      here_is input inputs o.member.segment found.0 (inr found.1)
  | inr h ↦ later input inputs o.member.segment (from_offers setting (file + 1) files inputs o are.1 h)
]

-- a row that is chosen is one of the offers
pub record IsOffered (all : List Offer) (m : Member) : Type 0 where
  pub offer : Offer
  pub among : IsIn all offer
  pub member : offer.member ≡ m

some_member : (a b : Member) → Some a ≡ Some b → a ≡ b
some_member a b e = cc

first_is : (test : Offer → Bool) (all : List Offer) (m : Member) → first_offer test all ≡ Some m → IsOffered all m
first_is test [] m e = absurd cc
first_is test (o ∷ all) m e = by_test (test o) e (λ more. first_is test all m more)
  where
    by_test : (b : Bool) → cond b (Some o.member) (first_offer test all) ≡ Some m → (first_offer test all ≡ Some m → IsOffered all m) → IsOffered (o ∷ all) m
    by_test true e go = record { offer = o; among = inl refl; member = some_member o.member m e }
    by_test false e go = let rest = go e in record { offer = rest.offer; among = inr rest.among; member = rest.member }

row_offered : (all : List Offer) (u : Member) (a : Use) (m : Member) → row_for all u a ≡ Some m → IsOffered all m
unfolding row_for
row_offered all u a m e = elim (or_some (first_offer _ all) (first_offer _ all) m e) [
  | inl h ↦ first_is _ all m h
  | inr h ↦ first_is _ all m h
]

first_answer : {A B : Type 0} (f : A → Option B) (xs : List A) (y : B) → first_some f xs ≡ Some y → (x : A) × (f x ≡ Some y)
first_answer f [] y e = absurd cc
first_answer f (x ∷ xs) y e = elim (or_some (f x) (first_some f xs) y e) [
  | inl h ↦ (x, h)
  | inr h ↦ first_answer f xs y h
]

unless_row : (found : List FoundDefinition) (row : Option Member) (m : Member) → unless_found found row ≡ Some m → row ≡ Some m
unless_row [] row m e = e
unless_row (f ∷ found) row m e = absurd cc

wanted_offered : (all : List Offer) (list : List Member) (m : Member) → wanted all list ≡ Some m → IsOffered all m
unfolding wanted
wanted_offered all list m e =
    let a = first_answer (λ (x : PlacedUse). wanted_by all list x.place x.member x.use') (all_uses list) m e in
    row_offered all a.0.member a.0.use' m (unless_row _ (row_for all a.0.member a.0.use') m a.1)

pub followed : (all : List Offer) (before added : List Member) (m : Member) → Follow all before added → IsIn added m → IsOffered all m
followed all before [] m follow is = absurd is
followed all before (x ∷ added) m follow (inl e) = wanted_offered all before m (follow.0 ∙ ap (λ (y : Member). Some y) e)
followed all before (x ∷ added) m follow (inr more) = followed all (before ++ x ∷ []) added m follow.1 more

-- each member of the linked list was read
pub members_read : (files : LinkInput) (list : List Member) (m : Member) → HasBytes files → IsProgram files list → IsIn list m → IsRead m.segment
unfolding objects library_offers
members_read files list m bytes program is = of_inputs files.inputs program.inputs m.segment bytes.0 program.are_inputs (by_part (in-append (objects program.setting program.inputs) program.linked.added m (subst (λ (l : List Member). IsIn l m) program.linked.parts is)))
  where
    by_part : IsIn (objects program.setting program.inputs) m ⊎ IsIn program.linked.added m → IsOf program.inputs m.segment
    by_part (inl h) = from_objects program.setting 1 program.inputs m h
    by_part (inr h) =
        let offered = followed (library_offers program.setting program.inputs) (objects program.setting program.inputs) program.linked.added m program.linked.follow h in
        subst (λ (x : Member). IsOf program.inputs x.segment) offered.member (from_offers program.setting 1 files.inputs program.inputs offered.offer program.are_inputs offered.among)

-- ---- what is known of its header

-- the fields fit a header, and the checks hold
pub record HasHeader (f : HeaderFields) : Type 0 where
  pub bank : f.bank_size ≤ 0x10000
  pub kind : f.kind < 2 ^ 16
  pub listed : is_listed (form_of f.kind) ≡ true
  pub org : f.org < 2 ^ 32
  pub align : f.align < 2 ^ 32
  pub entry : f.entry < 2 ^ 32
  pub load_name : length f.load_name ≡ 10

header_of : (bytes : List ℕ) → IsBytes bytes → IsSound bytes (fields_of bytes) → HasHeader (fields_of bytes)
unfolding fields_of names_end number_at
header_of bytes fits sound = record {
  bank = sound.banks;
  kind = kind_of-lt bytes fits;
  listed = sound.listed;
  org = little_from-lt 0 4 (drop 0x18 bytes) (IsBytes-drop 0x18 bytes fits);
  align = little_from-lt 0 4 (drop 0x1C bytes) (IsBytes-drop 0x1C bytes fits);
  entry = little_from-lt 0 4 (drop 0x24 bytes) (IsBytes-drop 0x24 bytes fits);
  load_name =
      let disp = number_at 2 0x28 bytes in
      omega (arith, length-take 10 (drop disp bytes), length-drop disp bytes, sound.names, sound.data', sound.whole);
}

pub read_header : (s : Segment) → IsRead s → HasHeader s.fields
read_header s read =
    let tail = drop s.start read.file in
    subst HasHeader (sym read.is.header.fields) (header_of tail (IsBytes-drop s.start read.file read.bytes) (sound_from_none tail read.is.header.passes))

-- ---- and of its records

if_none : {A : Type 0} (b : Bool) (x : A) → cond b None (Some x) ≡ None → b ≡ true
if_none true x e = refl
if_none false x e = absurd cc

pub read_size : (s : Segment) → IsRead s → s.fields.length ≡ body_size s + s.fields.res_spc
unfolding segment_fault
read_size s read =
    let a = or_none _ _ read.sound in
    let b = or_none _ _ a.1 in
    eqb-true s.fields.length (body_size s + s.fields.res_spc) (if_none (eqb s.fields.length (body_size s + s.fields.res_spc)) _ b.1)

open_at : (start : ℕ) (f : HeaderFields) (file : List ℕ) → (body_reader start f file).ended ≡ false
unfolding body_reader
open_at start f file = refl

-- there is one at least, since the last is END
pub read_some : (s : Segment) → IsRead s → (found : ℕ × Record) × (founds : List (ℕ × Record)) × (s.records ≡ found ∷ founds)
read_some s read = by_records s.records refl read.is.records
  where
    by_records : (founds : List (ℕ × Record)) → s.records ≡ founds → HandsOut (body_reader s.start s.fields read.file) founds read.is.last → (found : ℕ × Record) × (more : List (ℕ × Record)) × (s.records ≡ found ∷ more)
    by_records [] e run = let clash : false ≡ true = sym (open_at s.start s.fields read.file) ∙ ap (λ (r : Reader). r.ended) run ∙ read.is.ended in absurd cc
    by_records (found ∷ more) e run = (found, more, e)

-- and each has a spelling
pub read_records : (s : Segment) → IsRead s → AllByRecursion (λ found. IsRecord (layout_of s.fields.version s.fields.lab_len) found.1) s.records
unfolding body_reader
read_records s read =
    let end = s.start + s.fields.byte_count in
    let left : IsBytes (drop (s.start + s.fields.disp_data) (take end read.file)) = IsBytes-drop (s.start + s.fields.disp_data) (take end read.file) (IsBytes-take end read.file read.bytes) in
    (handed_out (body_reader s.start s.fields read.file) read.is.last s.records left read.is.records).0

-- ---- and of its type

-- it is no jump table, no list of pathnames and no dictionary
pub read_kind : (s : Segment) → IsRead s → ((form_of s.fields.kind == 0x02) ≡ false) × ((form_of s.fields.kind == 0x04) ≡ false) × ((form_of s.fields.kind == 0x08) ≡ false)
read_kind s read = let two = types s read.first read.sound in (two.0, two.1, read.no_dictionary)
