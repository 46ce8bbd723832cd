-- The dictionary of a library, from its three records on.
use Rattle.std.proofs.Common.{◌≡◌, ℕ, ◌+◌, ◌/◌, ◌%◌, ◌^◌, ◌<◌, ◌≤◌, false, List, [], ◌∷◌, length, take, drop, map, Option, Some, None, Result, Err, refl, sym, ap, subst, ◌∙◌, arith}
use Rattle.std.specs.Prelude.{unwrap_or, ◌==◌}
use Rattle.std.proofs.lemmas.Bool.{eq-eqb, ne_eqb}
use Rattle.std.proofs.lemmas.List.{length-take, length-drop}
use Rattle.omf_format.specs.Field.{◌>>=◌}
use Rattle.omf_format.specs.Header.{HeaderFields, form_of}
use Rattle.omf_format.specs.Number.{IsBytes}
use Rattle.omf_format.specs.Record.{Record}
use Rattle.omf_format.specs.File.{Segment, body_reader, IsFile, segment_at}
use Rattle.omf_format.specs.laws.FileLaws.{header_lies, segments_fit}
use Rattle.omf_format.specs.laws.BodyLaws.{body_fits}
use Rattle.link_meaning.specs.Member.{OfferedRow, is_library}
use Rattle.load_meaning.specs.Pathnames.{long_bytes}
use Rattle.link_meaning.specs.Dictionary.{file_numbers, names_from, numbered_from, or_false, rows_from, rows_in, rows_of_records, rows_of}
use Rattle.lib_dict.specs.declared.fault.DictFault.{DictFault}
use Rattle.lib_dict.specs.declared.fault.DictFault.TheVariants as dict
use Rattle.lib_dict.specs.declared.dictionary.Row as declared
use Rattle.lib_dict.specs.Library.{HasRows, IsNoLibrary, IsFalseAt}
use Rattle.lib_dict.specs.Rows.{seen_row, HasNoRows}
use Rattle.lib_dict.specs.Parts.{DictionaryTexts, HasParts, HasPlace}
use Rattle.lib_dict.specs.Tables.{SameNumbers, starts_of, AreNumbers, AreStarts, numbers_in, names_in, IsInFile, AreRowsIn, IsRowFault}
use Rattle.lib_dict.proofs.PartLaws.{second_fits}

abbrev pub Answer : Type 0
Answer = Result (List OfferedRow) ℕ

-- ---- the forms of the records

-- the first record hasn't its form
pub no_numbers : (start at : ℕ) (first second third : List ℕ) (others : List Segment) → file_numbers (length first) first ≡ None → rows_in start at first second third others ≡ Err start
unfolding rows_in
no_numbers start at first second third others none = rw none refl

-- the second record is no list of rows
pub no_rows : (start at : ℕ) (first second third : List ℕ) (others : List Segment) (numbers : List ℕ) → file_numbers (length first) first ≡ Some numbers → (length second % 12 ≡ 0 → ⊥)
    → rows_in start at first second third others ≡ Err start
unfolding rows_in
no_rows start at first second third others numbers some other = rw (some, ne_eqb (length second % 12) 0 other) refl

-- the third record hasn't its form
pub no_names : (start at : ℕ) (first second third : List ℕ) (others : List Segment) (numbers : List ℕ) → file_numbers (length first) first ≡ Some numbers → length second % 12 ≡ 0
    → names_from (length third) 0 third ≡ None → rows_in start at first second third others ≡ Err start
unfolding rows_in
no_names start at first second third others numbers some whole none = rw (some, eq-eqb (length second % 12) 0 whole, none) refl

-- they have their forms
pub all_forms : (start at : ℕ) (first second third : List ℕ) (others : List Segment) (numbers : List ℕ) (names : List (ℕ × List ℕ)) → file_numbers (length first) first ≡ Some numbers → length second % 12 ≡ 0
    → names_from (length third) 0 third ≡ Some names
    → rows_in start at first second third others ≡ rows_from (length second / 12) (numbers_in first) (names_in third) (numbered_from 2 others) (at + 5) second
unfolding rows_in numbers_in names_in
all_forms start at first second third others numbers names some whole named = rw (some, eq-eqb (length second % 12) 0 whole, named) refl

pub numbers_fit : (keys first : List ℕ) → AreNumbers (Some keys) first → SameNumbers keys (numbers_in first)
unfolding numbers_in
numbers_fit keys first are = subst (SameNumbers keys) (sym (ap (λ (o : Option (List ℕ)). unwrap_or o []) are.1)) are.2

pub names_named : (keys third : List ℕ) → AreStarts (Some keys) third → names_from (length third) 0 third ≡ Some (names_in third)
unfolding names_in
names_named keys third are = are.1 ∙ sym (ap (λ (o : Option (List (ℕ × List ℕ))). some (unwrap_or o [])) are.1)
  where
    some : List (ℕ × List ℕ) → Option (List (ℕ × List ℕ))
    some x = Some x

pub starts_fit : (keys third : List ℕ) → AreStarts (Some keys) third → SameNumbers keys (starts_of (names_in third))
unfolding names_in
starts_fit keys third are = subst (λ (names : List (ℕ × List ℕ)). SameNumbers keys (starts_of names)) (sym (ap (λ (o : Option (List (ℕ × List ℕ))). unwrap_or o []) are.1)) are.2

-- ---- the three records

-- other records are no dictionary's
pub no_parts : (start : ℕ) (records : List (ℕ × Record)) (others : List Segment) → ((parts : DictionaryTexts) → HasParts parts records → ⊥) → rows_of_records start records others ≡ Err start
no_parts start [] others none = refl
no_parts start (a ∷ []) others none = refl
no_parts start (a ∷ b ∷ []) others none = refl
no_parts start (a ∷ b ∷ c ∷ []) others none = refl
no_parts start (a ∷ b ∷ c ∷ e ∷ f ∷ more) others none = refl
no_parts start (a ∷ b ∷ c ∷ e ∷ []) others none = by (long_bytes a.1) (long_bytes b.1) (long_bytes c.1) refl refl refl
  where
    by : (x y z : Option (List ℕ)) → long_bytes a.1 ≡ x → long_bytes b.1 ≡ y → long_bytes c.1 ≡ z
        → (or_false start x >>= λ first. or_false start y >>= λ second. or_false start z >>= λ third. rows_in start b.0 first second third others) ≡ Err start
    by None y z p q r = refl
    by (Some x) None z p q r = refl
    by (Some x) (Some y) None p q r = refl
    by (Some x) (Some y) (Some z) p q r =
        absurd (none (record { first = x; second = y; at = b.0; third = z }) (record { a = a; b = b; c = c; e = e; are = refl; first = p; second = q; at = refl; third = r }))

-- these are
pub with_parts : (start : ℕ) (records : List (ℕ × Record)) (others : List Segment) (parts : DictionaryTexts) → HasParts parts records
    → rows_of_records start records others ≡ rows_in start parts.at parts.first parts.second parts.third others
with_parts start records others parts has =
    ap (λ (l : List (ℕ × Record)). rows_of_records start l others) has.are
    ∙ by (long_bytes has.a.1) (long_bytes has.b.1) (long_bytes has.c.1) has.first has.second has.third
    ∙ ap (λ (n : ℕ). rows_in start n parts.first parts.second parts.third others) has.at
  where
    by : (x y z : Option (List ℕ)) → x ≡ Some parts.first → y ≡ Some parts.second → z ≡ Some parts.third
        → (or_false start x >>= λ first. or_false start y >>= λ second. or_false start z >>= λ third. rows_in start has.b.0 first second third others)
        ≡ rows_in start has.b.0 parts.first parts.second parts.third others
    by x y z p q r = rw (p, q, r) refl

-- ---- the first segment

pub head_at : (list : List Segment) (s : Segment) → Some s ≡ segment_at list 1 → list ≡ s ∷ drop 1 list
head_at [] s is = absurd cc
head_at (t ∷ list) s is = let same : s ≡ t = cc in ap (λ (u : Segment). u ∷ list) (sym same)

-- there is none
pub none_first : (list : List Segment) (file : List ℕ) → IsFile list file → None ≡ segment_at list 1 → IsNoLibrary file
none_first list file is none = record { segments = list; is_file = is; other = by list none }
  where
    by : (l : List Segment) → None ≡ segment_at l 1 → is_library l ≡ false
    by [] none = refl
    by (t ∷ l) none = absurd cc

library_is : (list : List Segment) (s : Segment) → Some s ≡ segment_at list 1 → is_library list ≡ (form_of s.fields.kind == 0x08)
library_is list s is = ap is_library (head_at list s is)

-- it isn't a dictionary
pub other_first : (list : List Segment) (file : List ℕ) (s : Segment) → IsFile list file → Some s ≡ segment_at list 1 → (form_of s.fields.kind ≡ 0x08 → ⊥) → IsNoLibrary file
other_first list file s is here other = record { segments = list; is_file = is; other = library_is list s here ∙ ne_eqb (form_of s.fields.kind) 8 other }

rows_are : (list : List Segment) (s : Segment) → Some s ≡ segment_at list 1 → rows_of list ≡ rows_of_records s.start s.records (drop 1 list)
unfolding rows_of
rows_are list s here = ap rows_of (head_at list s here)

-- its records are no dictionary's
pub false_first : (list : List Segment) (file : List ℕ) (s : Segment) → IsFile list file → Some s ≡ segment_at list 1 → form_of s.fields.kind ≡ 0x08
    → ((parts : DictionaryTexts) → HasParts parts s.records → ⊥) → IsFalseAt file s.start
false_first list file s is here form none = record {
  segments = list;
  is_file = is;
  library = library_is list s here ∙ eq-eqb (form_of s.fields.kind) 8 form;
  false' = rows_are list s here ∙ no_parts s.start s.records (drop 1 list) none;
}

-- its rows are returned
pub row_views : (list : List Segment) (file : List ℕ) (s : Segment) (parts : DictionaryTexts) (rows : List declared.Row) → IsFile list file → Some s ≡ segment_at list 1 → form_of s.fields.kind ≡ 0x08
    → HasParts parts s.records → AreRowsIn list (rows_in s.start parts.at parts.first parts.second parts.third (drop 1 list)) rows → HasRows file (map seen_row rows)
row_views list file s parts rows is here form has are = record {
  segments = list;
  is_file = is;
  library = library_is list s here ∙ eq-eqb (form_of s.fields.kind) 8 form;
  found = are.found;
  read = rows_are list s here ∙ with_parts s.start s.records (drop 1 list) parts has ∙ are.read;
  reported = are.reported;
}

-- or it is false there
pub false_rows : (list : List Segment) (file : List ℕ) (s : Segment) (parts : DictionaryTexts) (fault : DictFault) → IsFile list file → Some s ≡ segment_at list 1 → form_of s.fields.kind ≡ 0x08
    → HasParts parts s.records → IsRowFault fault (rows_in s.start parts.at parts.first parts.second parts.third (drop 1 list)) → HasNoRows fault file
false_rows list file s parts (dict.File fault) is here form has bad = absurd bad
false_rows list file s parts dict.NotLibrary is here form has bad = absurd bad
false_rows list file s parts (dict.BadLibrary at) is here form has bad = record {
  segments = list;
  is_file = is;
  library = library_is list s here ∙ eq-eqb (form_of s.fields.kind) 8 form;
  false' = rows_are list s here ∙ with_parts s.start s.records (drop 1 list) parts has ∙ bad;
}
false_rows list file s parts dict.Memory is here form has bad = tt

-- ---- the places of rows fit 32 bits

pub left_within : (start : ℕ) (f : HeaderFields) (file : List ℕ) → length (body_reader start f file).left ≤ (body_reader start f file).end
unfolding body_reader
left_within start f file = omega (arith, length-drop (start + f.disp_data) (take (start + f.byte_count) file), length-take (start + f.byte_count) file)

pub end_is : (start : ℕ) (f : HeaderFields) (file : List ℕ) → (body_reader start f file).end ≡ start + f.byte_count
unfolding body_reader
end_is start f file = refl

pub parts_fit : (list : List Segment) (file : List ℕ) (s : Segment) (parts : DictionaryTexts) → IsBytes file → length file < 2 ^ 32 → IsFile list file → Some s ≡ segment_at list 1 → HasParts parts s.records → HasPlace parts
parts_fit list file s parts bytes short is here has =
    let are : IsFile (s ∷ drop 1 list) file = subst (λ (l : List Segment). IsFile l file) (head_at list s here) is in
    let r = body_reader s.start s.fields file in
    let lies = header_lies s.start s.fields file are.2.header in
    let fits = second_fits r are.2.last parts s.records has are.2.records (body_fits s.start s.fields file bytes) (left_within s.start s.fields file) in
    let end = end_is s.start s.fields file in
    record { fits = omega (arith, fits.0, end, lies.within, short); third' = omega (arith, fits.1, end, lies.within, short) }

-- the segments of a file are few
pub few_segments : (list : List Segment) → IsInFile list → length list + 2 < 2 ^ 32
few_segments list is = omega (arith, segments_fit list 0 is.file (length is.file) is.is_file, is.short)
