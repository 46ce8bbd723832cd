-- What is laid out of a dictionary is read.
use Rattle.std.proofs.Common.{◌≡◌, ℕ, zero, suc, ◌+◌, ◌*◌, ◌/◌, ◌%◌, ◌<◌, ◌≤◌, Bool, true, false, List, [], ◌∷◌, ◌++◌, length, take, drop, Option, Some, Result, Ok, inl, inr, refl, sym, ap, subst, ◌∙◌, arith}
use Rattle.std.specs.Prelude.{◌||◌, ◌&&◌, not, ◌==◌, if◌then◌else◌, slice_get, option_map}
use Rattle.std.specs.List.{list_any, flat_map}
use Rattle.std.specs.Str.{bytes_eq}
use Rattle.std.proofs.lemmas.Bool.{eq-eqb, ne_eqb}
use Rattle.std.proofs.lemmas.List.{take_at, drop_at, length-append}
use Rattle.std.proofs.lemmas.List.Concat.{flat_map-cons}
use Rattle.omf_format.specs.Number.{number_at}
use Rattle.omf_format.specs.Header.{form_of}
use Rattle.omf_format.specs.Record.{Record}
use Rattle.omf_format.specs.File.{Segment, AreSegments, IsFile, segment_at}
use Rattle.omf_format.specs.laws.FileLaws.{header_lies}
use Rattle.link_meaning.specs.First.{IsIn}
use Rattle.link_meaning.specs.Member.{OfferedRow}
use Rattle.object_meaning.specs.Defines.{Scope, Definition, outer_scope, defined_in}
use Rattle.link_meaning.specs.Dictionary.{file_numbers, names_from, numbered_from, first_pair, row_at, rows_from, rows_in, rows_of_records, rows_of}
use Rattle.link_meaning.specs.laws.Steps.{has_scope}
use Rattle.lib_dict.specs.DictionaryLayout.{counted_name, AreFileNumbers, IsRow, AreRows, IsDictionary}
use Rattle.lib_dict.proofs.Forms.{step_end, step_more, names_more, names_none}
use Rattle.lib_dict.proofs.LayoutLaws.{placed_from, Placed, fits_row, two_digits, third_byte}

-- ---- the first record

suc_of : (n k : ℕ) → suc k ≤ n → (m : ℕ) × (n ≡ suc m)
suc_of zero k le = absurd (omega arith)
suc_of (suc m) k le = (m, refl)

one_number : (n x y : ℕ) (name rest numbers : List ℕ) → (number_at 2 0 (x ∷ y ∷ []) ≡ 0 → ⊥) → file_numbers n rest ≡ Some numbers
    → file_numbers (suc n) (x ∷ y ∷ (counted_name name ++ rest)) ≡ Some (number_at 2 0 (x ∷ y ∷ []) ∷ numbers)
one_number n x y name rest numbers some more =
    let text = x ∷ y ∷ (counted_name name ++ rest) in
    let tail = counted_name name ++ rest in
    let number = two_digits x y tail in
    let size = third_byte x y (length name) (name ++ rest) in
    let len : length text ≡ 3 + length name + length rest = omega (arith, length-append name rest) in
    let other : (number_at 2 0 text == 0) ≡ false = ne_eqb (number_at 2 0 text) 0 (λ e. some (number ∙ e)) in
    let left : drop (3 + number_at 1 2 text) text ≡ rest = ap (λ (k : ℕ). drop (3 + k) text) size ∙ skip (length name) ∙ drop_at name rest (length name) refl in
    step_more n text (omega arith) other (omega (arith, size))
    ∙ ap (λ (l : List ℕ). option_map (λ ks. number_at 2 0 text ∷ ks) (file_numbers n l)) left
    ∙ ap (option_map (λ ks. number_at 2 0 text ∷ ks)) more
    ∙ ap (λ (k : ℕ). some_list (k ∷ numbers)) (sym number)
  where
    some_list : List ℕ → Option (List ℕ)
    some_list l = Some l

    skip : (k : ℕ) → drop (3 + k) (x ∷ y ∷ (counted_name name ++ rest)) ≡ drop k (name ++ rest)
    skip k = let same : 3 + k ≡ suc (suc (suc k)) = omega arith in ap (λ (m : ℕ). drop m (x ∷ y ∷ (counted_name name ++ rest))) same

read_numbers : (numbers bytes : List ℕ) (n : ℕ) → AreFileNumbers numbers bytes → length bytes ≤ n → file_numbers n bytes ≡ Some numbers
read_numbers [] bytes n are le =
    let m = suc_of n 1 (omega (arith, are.0)) in
    ap (λ (k : ℕ). file_numbers k bytes) m.1 ∙ step_end m.0 bytes (omega (arith, are.0)) are.1 ∙ rw (eq-eqb (length bytes) 2 are.0) refl
read_numbers (number ∷ numbers) bytes n are le =
    let name = are.1 in
    let rest = are.2 in
    let len : length bytes ≡ 3 + length name + length rest = omega (arith, ap length are.3, are.4, length-append are.0 (counted_name name ++ rest), length-append name rest) in
    let m = suc_of n 2 (omega arith) in
    ap (λ (k : ℕ). file_numbers k bytes) m.1
    ∙ ap (file_numbers (suc m.0)) are.3
    ∙ by are.0 are.4 are.5 are.6 m.0 (read_numbers numbers rest m.0 are.7 (omega (arith, m.1)))
  where
    some_list : List ℕ → Option (List ℕ)
    some_list l = Some l

    by : (digits : List ℕ) → length digits ≡ 2 → number_at 2 0 digits ≡ number → (number ≡ 0 → ⊥) → (k : ℕ) → file_numbers k are.2 ≡ Some numbers → file_numbers (suc k) (digits ++ (counted_name are.1 ++ are.2)) ≡ Some (number ∷ numbers)
    by [] two is some k more = absurd (omega arith)
    by (x ∷ []) two is some k more = absurd (omega arith)
    by (x ∷ y ∷ []) two is some k more = one_number k x y are.1 are.2 numbers (λ e. some (sym is ∙ e)) more ∙ ap (λ (j : ℕ). some_list (j ∷ numbers)) is
    by (x ∷ y ∷ z ∷ more') two is some k more = absurd (omega arith)

-- ---- the third record

read_names : (names : List (List ℕ)) (n at : ℕ) → length (flat_map counted_name names) ≤ n → names_from n at (flat_map counted_name names) ≡ Some (placed_from at names)
read_names [] n at le = names_none n at
read_names (name ∷ names) n at le =
    let rest = flat_map counted_name names in
    let all : flat_map counted_name (name ∷ names) ≡ counted_name name ++ rest = flat_map-cons counted_name name names in
    let len : length (flat_map counted_name (name ∷ names)) ≡ 1 + length name + length rest = omega (arith, ap length all, length-append name rest) in
    let m = suc_of n 0 (omega arith) in
    let more = read_names names m.0 (at + 1 + length name) (omega (arith, m.1)) in
    ap (names_from n at) all
    ∙ ap (λ (k : ℕ). names_from k at (counted_name name ++ rest)) m.1
    ∙ names_more m.0 at (length name) (name ++ rest) (omega (arith, length-append name rest))
    ∙ ap (λ (l : List ℕ). option_map (λ ns. (at, l) ∷ ns) (names_from m.0 (at + 1 + length name) (drop (length name) (name ++ rest)))) (take_at name rest (length name) refl)
    ∙ ap (λ (l : List ℕ). option_map (λ ns. (at, name) ∷ ns) (names_from m.0 (at + 1 + length name) l)) (drop_at name rest (length name) refl)
    ∙ ap (option_map (λ ns. (at, name) ∷ ns)) more

-- ---- what is found

name_found : (before : List (List ℕ)) (name : List ℕ) (following : List (List ℕ)) (at d : ℕ) → d ≡ at + length (flat_map counted_name before)
    → first_pair (λ x. x.0 == d) (placed_from at (before ++ name ∷ following)) ≡ Some (d, name)
name_found [] name following at d place = by (at == d) (eq-eqb at d (omega arith))
  where
    some : ℕ × List ℕ → Option (ℕ × List ℕ)
    some x = Some x

    by : (t : Bool) → t ≡ true → (if t then Some (at, name) else first_pair (λ x. x.0 == d) (placed_from (at + 1 + length name) following)) ≡ Some (d, name)
    by true e = let same : at ≡ d = omega arith in ap (λ (k : ℕ). some (k, name)) same
    by false e = absurd cc
name_found (b ∷ before) name following at d place =
    let size = ap length (flat_map-cons counted_name b before) in
    let len : d ≡ at + 1 + length b + length (flat_map counted_name before) = omega (arith, size, length-append (counted_name b) (flat_map counted_name before)) in
    by (at == d) (ne_eqb at d (λ e. absurd (omega arith))) (name_found before name following (at + 1 + length b) d len)
  where
    by : (t : Bool) → t ≡ false → first_pair (λ x. x.0 == d) (placed_from (at + 1 + length b) (before ++ name ∷ following)) ≡ Some (d, name)
        → (if t then Some (at, b) else first_pair (λ x. x.0 == d) (placed_from (at + 1 + length b) (before ++ name ∷ following))) ≡ Some (d, name)
    by true e go = absurd cc
    by false e go = go

starts_later : (segments : List Segment) (next : ℕ) (file : List ℕ) (end place : ℕ) (s : Segment) → AreSegments segments next file end → slice_get segments place ≡ Some s → next ≤ s.start
starts_later [] next file end place s are here = absurd cc
starts_later (t ∷ segments) next file end zero s are here = let same : t ≡ s = cc in omega (arith, ap (λ (u : Segment). u.start) same, are.0)
starts_later (t ∷ segments) next file end (suc place) s are here =
    let rest = starts_later segments (next + t.fields.byte_count) file end place s are.3 here in
    omega arith

segment_found : (segments : List Segment) (next : ℕ) (file : List ℕ) (end number place at : ℕ) (s : Segment) → AreSegments segments next file end → slice_get segments place ≡ Some s → s.start ≡ at
    → (form_of s.fields.kind ≡ 0x08 → ⊥) → first_pair (fits_row at) (numbered_from number segments) ≡ Some (number + place, s)
segment_found [] next file end number place at s are here start other = absurd cc
segment_found (t ∷ segments) next file end number zero at s are here start other =
    let same : t ≡ s = cc in
    let fits : fits_row at (number, t) ≡ true = ap (λ (u : Segment). fits_row at (number, u)) same ∙ rw (eq-eqb s.start at start, ne_eqb (form_of s.fields.kind) 8 other) refl in
    by (fits_row at (number, t)) fits same
  where
    some : ℕ × Segment → Option (ℕ × Segment)
    some x = Some x

    by : (b : Bool) → b ≡ true → t ≡ s → (if b then Some (number, t) else first_pair (fits_row at) (numbered_from (number + 1) segments)) ≡ Some (number + 0, s)
    by true e same = let plain : number ≡ number + 0 = omega arith in ap (λ (u : Segment). some (number, u)) same ∙ ap (λ (k : ℕ). some (k, s)) plain
    by false e same = absurd cc
segment_found (t ∷ segments) next file end number (suc place) at s are here start other =
    let lies = header_lies t.start t.fields file are.2.header in
    let later = starts_later segments (next + t.fields.byte_count) file end place s are.3 here in
    let apart : (t.start == at) ≡ false = ne_eqb t.start at (λ e. absurd (omega (arith, lies.some, are.0))) in
    by (t.start == at) apart (segment_found segments (next + t.fields.byte_count) file end (number + 1) place at s are.3 here start other)
  where
    some : ℕ × Segment → Option (ℕ × Segment)
    some x = Some x

    by : (b : Bool) → b ≡ false → first_pair (fits_row at) (numbered_from (number + 1) segments) ≡ Some (number + 1 + place, s)
        → (if b && not (form_of t.fields.kind == 0x08) then Some (number, t) else first_pair (fits_row at) (numbered_from (number + 1) segments)) ≡ Some (number + suc place, s)
    by true e go = absurd cc
    by false e go = let step : number + 1 + place ≡ number + suc place = omega arith in go ∙ ap (λ (k : ℕ). some (k, s)) step

any_in : (k : ℕ) (numbers : List ℕ) → IsIn numbers k → list_any (λ x. x == k) numbers ≡ true
any_in k [] is = absurd is
any_in k (x ∷ numbers) (inl e) = rw (eq-eqb x k e) refl
any_in k (x ∷ numbers) (inr more) = ap (λ (b : Bool). (x == k) || b) (any_in k numbers more) ∙ or_true (x == k)
  where
    or_true : (a : Bool) → (a || true) ≡ true
    or_true true = refl
    or_true false = refl

bytes_self : (a : List ℕ) → bytes_eq a a ≡ true
bytes_self [] = refl
bytes_self (x ∷ a) = rw (eq-eqb x x refl) (bytes_self a)

scope_self : (private : Bool) → has_scope private (outer_scope private) ≡ true
scope_self true = refl
scope_self false = refl

defines_any : (name : List ℕ) (private : Bool) (ds : List Definition) (d : Definition) → IsIn ds d → d.name ≡ name → d.scope ≡ outer_scope private → list_any (λ x. bytes_eq x.name name && has_scope private x.scope) ds ≡ true
defines_any name private [] d is named scoped = absurd is
defines_any name private (x ∷ ds) d (inl e) named scoped =
    let first : (bytes_eq x.name name && has_scope private x.scope) ≡ true =
    ap (λ (y : Definition). bytes_eq y.name name && has_scope private y.scope) e
    ∙ ap (λ (n : List ℕ). bytes_eq n name && has_scope private d.scope) named
    ∙ ap (λ (s : Scope). bytes_eq name name && has_scope private s) scoped
    ∙ rw (bytes_self name) (scope_self private) in
    ap (λ (b : Bool). b || list_any (λ x. bytes_eq x.name name && has_scope private x.scope) ds) first
defines_any name private (x ∷ ds) d (inr more) named scoped =
    ap (λ (b : Bool). (bytes_eq x.name name && has_scope private x.scope) || b) (defines_any name private ds d more named scoped) ∙ or_true (bytes_eq x.name name && has_scope private x.scope)
  where
    or_true : (a : Bool) → (a || true) ≡ true
    or_true true = refl
    or_true false = refl

-- ---- rows

row_answer : (numbers : List ℕ) (placed : Placed) (members : List (ℕ × Segment)) (at : ℕ) (bytes name : List ℕ) (k : ℕ) (s : Segment)
    → first_pair (λ x. x.0 == number_at 4 0 bytes) placed ≡ Some (number_at 4 0 bytes, name) → first_pair (fits_row (number_at 4 8 bytes)) members ≡ Some (k, s) → list_any (λ x. x == number_at 2 4 bytes) numbers ≡ true
    → list_any (λ d. bytes_eq d.name name && has_scope (not (number_at 2 6 bytes == 0)) d.scope) (defined_in s) ≡ true
    → row_at numbers placed members at bytes ≡ Ok (record { name = name; from = number_at 2 4 bytes; private = not (number_at 2 6 bytes == 0); segment = k })
unfolding row_at
row_answer numbers placed members at bytes name k s named found known defines = rw (named, found, known, defines) refl

read_row : (s : Segment) (others : List Segment) (file : List ℕ) (numbers : List ℕ) (names : List (List ℕ)) (at : ℕ) (bytes : List ℕ) (row : OfferedRow) → IsFile (s ∷ others) file → IsRow (s ∷ others) numbers names bytes row
    → row_at numbers (placed_from 0 names) (numbered_from 2 others) at bytes ≡ Ok row
read_row s others file numbers names at bytes row are is =
    let st = is.name in
    let d = number_at 4 0 bytes in
    let named : first_pair (λ x. x.0 == d) (placed_from 0 names) ≡ Some (d, row.name) =
    ap (λ (l : List (List ℕ)). first_pair (λ x. x.0 == d) (placed_from 0 l)) st.parts ∙ name_found st.before row.name st.following 0 d (omega (arith, st.place)) in
    let place = two_more row.segment is.following in
    let here : slice_get others place.0 ≡ Some is.segment = ap (segment_at (s ∷ others)) (sym place.1) ∙ is.here in
    let found = segment_found others (0 + s.fields.byte_count) file (length file) 2 place.0 (number_at 4 8 bytes) is.segment are.3 here is.start is.other in
    let known : list_any (λ x. x == number_at 2 4 bytes) numbers ≡ true = ap (λ (k : ℕ). list_any (λ x. x == k) numbers) (sym is.from) ∙ any_in row.from numbers is.known in
    let defines : list_any (λ x. bytes_eq x.name row.name && has_scope (not (number_at 2 6 bytes == 0)) x.scope) (defined_in is.segment) ≡ true =
    ap (λ (b : Bool). list_any (λ x. bytes_eq x.name row.name && has_scope b x.scope) (defined_in is.segment)) (sym is.private)
    ∙ defines_any row.name row.private (defined_in is.segment) is.defines.by is.defines.among is.defines.name' is.defines.scope in
    let number : 2 + place.0 ≡ row.segment = omega (arith, place.1) in
    row_answer numbers (placed_from 0 names) (numbered_from 2 others) at bytes row.name (2 + place.0) is.segment named found known defines
    ∙ ap (λ (k : ℕ). ok_row (made row.name k (not (number_at 2 6 bytes == 0)) (2 + place.0))) (sym is.from)
    ∙ ap (λ (b : Bool). ok_row (made row.name row.from b (2 + place.0))) (sym is.private)
    ∙ ap (λ (k : ℕ). ok_row (made row.name row.from row.private k)) number
  where
    made : List ℕ → ℕ → Bool → ℕ → OfferedRow
    made name from private segment = record { name = name; from = from; private = private; segment = segment }

    ok_row : OfferedRow → Result OfferedRow ℕ
    ok_row r = Ok r

    two_more : (k : ℕ) → 1 < k → (p : ℕ) × (k ≡ suc (suc p))
    two_more zero lt = absurd (omega arith)
    two_more (suc zero) lt = absurd (omega arith)
    two_more (suc (suc p)) lt = (p, refl)

rows_next : (n : ℕ) (numbers : List ℕ) (placed : Placed) (members : List (ℕ × Segment)) (at : ℕ) (bytes : List ℕ) (row : OfferedRow) (rows : List OfferedRow) → row_at numbers placed members at (take 12 bytes) ≡ Ok row
    → rows_from n numbers placed members (at + 12) (drop 12 bytes) ≡ Ok rows → rows_from (suc n) numbers placed members at bytes ≡ Ok (row ∷ rows)
unfolding rows_from
rows_next n numbers placed members at bytes row rows first rest = rw (first, rest) refl

rows_end : (numbers : List ℕ) (placed : Placed) (members : List (ℕ × Segment)) (at : ℕ) (bytes : List ℕ) → rows_from zero numbers placed members at bytes ≡ Ok []
unfolding rows_from
rows_end numbers placed members at bytes = refl

record ReadRows (s : Segment) (others : List Segment) (numbers : List ℕ) (names : List (List ℕ)) (rows : List OfferedRow) (bytes : List ℕ) (at : ℕ) : Type 0 where
  size : length bytes ≡ 12 * length rows
  answer : rows_from (length rows) numbers (placed_from 0 names) (numbered_from 2 others) at bytes ≡ Ok rows

read_rows : (s : Segment) (others : List Segment) (file : List ℕ) (numbers : List ℕ) (names : List (List ℕ)) (rows : List OfferedRow) (bytes : List ℕ) (at : ℕ) → IsFile (s ∷ others) file
    → AreRows (s ∷ others) numbers names rows bytes → ReadRows s others numbers names rows bytes at
read_rows s others file numbers names [] bytes at is are = record { size = omega (arith, ap length are); answer = rows_end numbers (placed_from 0 names) (numbered_from 2 others) at bytes }
read_rows s others file numbers names (row ∷ rows) bytes at is are =
    let text = are.0 in
    let rest = are.1 in
    let more = read_rows s others file numbers names rows rest (at + 12) is are.5 in
    let front : take 12 bytes ≡ text = ap (take 12) are.2 ∙ take_at text rest 12 are.3 in
    let back : drop 12 bytes ≡ rest = ap (drop 12) are.2 ∙ drop_at text rest 12 are.3 in
    let first : row_at numbers (placed_from 0 names) (numbered_from 2 others) at (take 12 bytes) ≡ Ok row =
    ap (row_at numbers (placed_from 0 names) (numbered_from 2 others) at) front ∙ read_row s others file numbers names at text row is are.4 in
    let next : rows_from (length rows) numbers (placed_from 0 names) (numbered_from 2 others) (at + 12) (drop 12 bytes) ≡ Ok rows =
    ap (rows_from (length rows) numbers (placed_from 0 names) (numbered_from 2 others) (at + 12)) back ∙ more.answer in
    record {
      size = omega (arith, ap length are.2, are.3, length-append text rest, more.size);
      answer = rows_next (length rows) numbers (placed_from 0 names) (numbered_from 2 others) at bytes row rows first next;
    }

-- ---- the dictionary

read_in : (start at : ℕ) (first second third : List ℕ) (others : List Segment) (numbers : List ℕ) (placed : Placed) (rows : List OfferedRow) → file_numbers (length first) first ≡ Some numbers → length second ≡ 12 * length rows
    → names_from (length third) 0 third ≡ Some placed → rows_from (length rows) numbers placed (numbered_from 2 others) (at + 5) second ≡ Ok rows → rows_in start at first second third others ≡ Ok rows
unfolding rows_in
read_in start at first second third others numbers placed rows files size named answer =
    let whole : length second % 12 ≡ 0 = omega arith in
    let count : length second / 12 ≡ length rows = omega arith in
    rw (files, eq-eqb (length second % 12) 0 whole, named, count) answer

pub laid_out_is_read : (file : List ℕ) (segments : List Segment) (rows : List OfferedRow) → IsFile segments file → IsDictionary segments rows → rows_of segments ≡ Ok rows
unfolding rows_of
laid_out_is_read file segments rows is d =
    let s = d.dictionary in
    let others = d.others in
    let whole : IsFile (s ∷ others) file = subst (λ (l : List Segment). IsFile l file) d.parts is in
    let r = read_rows s others file d.numbers d.names rows d.second (d.b + 5) whole (subst (λ (l : List Segment). AreRows l d.numbers d.names rows d.second) d.parts d.rows') in
    let files = read_numbers d.numbers d.first (length d.first) d.files (omega arith) in
    let text : names_from (length d.third) 0 d.third ≡ Some (placed_from 0 d.names) =
    ap (names_from (length d.third) 0) d.named ∙ read_names d.names (length d.third) 0 (omega (arith, ap length d.named)) in
    ap rows_of d.parts
    ∙ ap (λ (l : List (ℕ × Record)). rows_of_records s.start l others) d.records
    ∙ read_in s.start d.b d.first d.second d.third others d.numbers (placed_from 0 d.names) rows files r.size text r.answer
