-- The load file that the linker writes is a file of the load segments, the table and the pathname segment, and each represents its cells.
use Rattle.std.proofs.Common.{suc, ◌≡◌, ℕ, ◌+◌, ◌^◌, ◌<◌, ◌≤◌, Bool, true, false, not, eqb, ltb, List, [], ◌∷◌, ◌++◌, length, map, filter, get_or, refl, sym, ap, subst, ◌∙◌, append_assoc, arith, inl, inr}
use Rattle.std.specs.Prelude.{◌||◌, ◌&&◌, cond}
use Rattle.std.specs.List.{flat_map, AllByRecursion}
use Rattle.std.specs.Str.{bytes_eq}
use Rattle.std.proofs.lemmas.Bool.{cases_lt, cases_Bool, lt-ltb}
use Rattle.std.proofs.lemmas.List.{length-append, length-map}
use Rattle.std.proofs.lemmas.List.Concat.{flat_map-cons}
use Rattle.std.proofs.lemmas.Grind.{flat_map-append}
use Rattle.std.proofs.lemmas.Option.{slice_get-get_or}
use Rattle.std.proofs.lemmas.Slice.Eq.{bytes_eq-Decides}
use Rattle.omf_format.specs.Header.{HeaderFields, form_of, is_listed, header_bytes}
use Rattle.omf_format.specs.laws.WrittenHeaderLaws.{length-header}
use Rattle.omf_format.specs.laws.FieldLaws.{length-trim}
use Rattle.omf_format.specs.File.{Segment, IsFile}
use Rattle.load_meaning.specs.declared.table.Target.{Target}
use Rattle.load_meaning.specs.Cells.{Cell, cells, byte_under}
use Rattle.load_meaning.specs.Table.{file_entry}
use Rattle.load_meaning.specs.WrittenBody.{written_cells, zeros_after}
use Rattle.load_meaning.specs.laws.StoredLaws.{zeros-le}
use Rattle.load_meaning.specs.WrittenFile.{Image, image_body, image_fields, image_text, file_text, IsImage, IsReadAs, AreReadAs, IsExport}
use Rattle.load_meaning.specs.laws.WrittenFileLaws.{file_stands_for}
use Rattle.load_meaning.specs.laws.WrittenTableLaws.{table_stands_for}
use Rattle.load_meaning.specs.laws.WrittenPathLaws.{pathnames_image_is, pathnames_cells}
use Rattle.load_meaning.specs.Pathnames.{IsPath, most_paths}
use Rattle.omf_format.specs.Record.{Record}
use Rattle.link_meaning.specs.laws.ExportLaws.{exports_fit}
use Rattle.link_meaning.specs.laws.SettingLaws.{has_paths}
use Rattle.link_meaning.specs.declared.form.LinkForm.TheVariants.{Program, Runtime as LibraryForm}
use Rattle.link_meaning.specs.declared.form.LinkForm.{LinkForm}
use Rattle.link_meaning.specs.declared.fault.LinkFault.{LinkFault}
use Rattle.link_meaning.specs.First.{IsIn, HasNone, IsFirst}
use Rattle.link_meaning.specs.laws.FirstLaws.{none_yet, none_more}
use Rattle.link_meaning.specs.laws.MemberLists.{in_filter, filter_in}
use Rattle.link_meaning.specs.Member.{Member, RuntimeFile, setting_in, form_in}
use Rattle.link_meaning.specs.Layout.{in_load, load_length, distinct, load_names, load_members, load_segment_kind, least_bank, greatest_align, of_first, load_fields, headers_from, load_headers}
use Rattle.link_meaning.specs.LinkFaults.{LinkInput, HasBytes, HasKindFault, HasCountFault, HasLengthFault, Orgs, Count, Lengths, Kinds, HasLayoutFault, Reading, Objects, Names, Layout, IsResolved}
use Rattle.link_meaning.specs.laws.Steps.{is_too_long, may_not_stand, exports_for, lesser_bank, image_of}
use Rattle.link_meaning.specs.LinkValues.{EquateAnswer}
use Rattle.link_meaning.specs.LinkedCells.{table_number, items, state_after, targets, linked}
use Rattle.link_meaning.specs.LinkWritten.{patches_of_cells, load_images, table_images, images, written_file, table_cells, linked_cells, HaveCells, AreMade, start, exports, path_images, path_cells}
use Rattle.link_meaning.specs.laws.RunCells.{AreRuns, runs_written, runs_stand}
use Rattle.link_meaning.specs.laws.LinkedRuns.{HasCells, MembersHave, linked_has, AreSoundItems, members_have, AreSized, few_on}
use Rattle.link_meaning.specs.laws.ReadMembers.{IsRead, members_read, HasHeader, read_header, read_size, read_some}

-- ---- what the layout holds

no_layout : (files : LinkInput) (list : List Member) (fault : LinkFault) → IsResolved files list → IsFirst (HasLayoutFault list) (Orgs ∷ Count ∷ Lengths ∷ Kinds ∷ []) fault → ⊥
no_layout files list fault resolved first = resolved.sound (Reading ∷ Objects ∷ Names ∷ []) Layout [] fault refl (list, resolved.program, first)

no_orgs : (files : LinkInput) (list : List Member) → IsResolved files list → (fault : LinkFault) → HasLayoutFault list [] Orgs fault → ⊥
no_orgs files list resolved fault has =
    no_layout files list fault resolved (record { before = []; item = Orgs; after = Count ∷ Lengths ∷ Kinds ∷ []; parts = refl; none = none_yet (HasLayoutFault list); here = has })

none_one : (files : LinkInput) (list : List Member) → IsResolved files list → HasNone (HasLayoutFault list) (Orgs ∷ [])
none_one files list resolved = none_more (HasLayoutFault list) [] Orgs (none_yet (HasLayoutFault list)) (no_orgs files list resolved)

no_count : (files : LinkInput) (list : List Member) → IsResolved files list → (fault : LinkFault) → HasCountFault list fault → ⊥
no_count files list resolved fault has =
    no_layout files list fault resolved (record { before = Orgs ∷ []; item = Count; after = Lengths ∷ Kinds ∷ []; parts = refl; none = none_one files list resolved; here = has })

none_two : (files : LinkInput) (list : List Member) → IsResolved files list → HasNone (HasLayoutFault list) (Orgs ∷ Count ∷ [])
none_two files list resolved = none_more (HasLayoutFault list) (Orgs ∷ []) Count (none_one files list resolved) (no_count files list resolved)

no_lengths : (files : LinkInput) (list : List Member) → IsResolved files list → (fault : LinkFault) → IsFirst (HasLengthFault list) (load_headers list) fault → ⊥
no_lengths files list resolved fault has =
    no_layout files list fault resolved (record { before = Orgs ∷ Count ∷ []; item = Lengths; after = Kinds ∷ []; parts = refl; none = none_two files list resolved; here = has })

-- there are at most 254 load segments
pub few_loads : (files : LinkInput) (list : List Member) → IsResolved files list → length (load_names list) ≤ 254
few_loads files list resolved = elim (cases_lt 254 (length (load_names list))) [
  | inl lt ↦
      let x = get_or (load_names list) 254 [] in
      absurd (no_count files list resolved _ (record { load_name = x; there = slice_get-get_or (load_names list) 254 [] lt; reported = refl }))
  | inr le ↦ le
]

true_false : true ≡ false → ⊥
true_false e = cc

short_from : (files : LinkInput) (list : List Member) (before rest : List HeaderFields) → IsResolved files list → load_headers list ≡ before ++ rest → HasNone (HasLengthFault list) before
    → AllByRecursion (λ f. is_too_long f ≡ false) rest
short_from files list before [] resolved parts none = tt
short_from files list before (f ∷ rest) resolved parts none = by_test (is_too_long f) refl (λ is more. (is, short_from files list (before ++ f ∷ []) rest resolved (parts ∙ sym (append_assoc before (f ∷ []) rest)) more))
  where
    by_test : (b : Bool) → is_too_long f ≡ b → (is_too_long f ≡ false → HasNone (HasLengthFault list) (before ++ f ∷ []) → AllByRecursion (λ g. is_too_long g ≡ false) (f ∷ rest))
        → AllByRecursion (λ g. is_too_long g ≡ false) (f ∷ rest)
    by_test true is go = absurd (no_lengths files list resolved _ (record { before = before; item = f; after = rest; parts = parts; none = none; here = record { long = is; reported = refl } }))
    by_test false is go = go is (none_more (HasLengthFault list) before f none (λ fault has. true_false (sym has.long ∙ is)))

pub short_loads : (files : LinkInput) (list : List Member) → IsResolved files list → AllByRecursion (λ f. is_too_long f ≡ false) (load_headers list)
short_loads files list resolved = short_from files list [] (load_headers list) resolved refl (none_yet (HasLengthFault list))

no_kinds : (files : LinkInput) (list : List Member) → IsResolved files list → (fault : LinkFault) → IsFirst (HasKindFault list) (load_headers list) fault → ⊥
no_kinds files list resolved fault has =
    no_layout files list fault resolved (record { before = Orgs ∷ Count ∷ Lengths ∷ []; item = Kinds; after = []; parts = refl; none = none_more (HasLayoutFault list) (Orgs ∷ Count ∷ []) Lengths (none_two files list resolved) (no_lengths files list resolved); here = has })

-- each load segment is allowed in what is linked
standing_from : (files : LinkInput) (list : List Member) (before rest : List HeaderFields) → IsResolved files list → load_headers list ≡ before ++ rest → HasNone (HasKindFault list) before
    → AllByRecursion (λ f. may_not_stand (form_in list) f ≡ false) rest
standing_from files list before [] resolved parts none = tt
standing_from files list before (f ∷ rest) resolved parts none = by_test (may_not_stand (form_in list) f) refl (λ is more. (is, standing_from files list (before ++ f ∷ []) rest resolved (parts ∙ sym (append_assoc before (f ∷ []) rest)) more))
  where
    by_test : (b : Bool) → may_not_stand (form_in list) f ≡ b → (may_not_stand (form_in list) f ≡ false → HasNone (HasKindFault list) (before ++ f ∷ []) → AllByRecursion (λ g. may_not_stand (form_in list) g ≡ false) (f ∷ rest))
        → AllByRecursion (λ g. may_not_stand (form_in list) g ≡ false) (f ∷ rest)
    by_test true is go = absurd (no_kinds files list resolved _ (record { before = before; item = f; after = rest; parts = parts; none = none; here = record { other = is; reported = refl } }))
    by_test false is go = go is (none_more (HasKindFault list) before f none (λ fault has. true_false (sym has.other ∙ is)))

pub standing_loads : (files : LinkInput) (list : List Member) → IsResolved files list → AllByRecursion (λ f. may_not_stand (form_in list) f ≡ false) (load_headers list)
standing_loads files list resolved = standing_from files list [] (load_headers list) resolved refl (none_yet (HasKindFault list))

pub short_length : (f : HeaderFields) → is_too_long f ≡ false → f.length ≤ 0xFFFFFF
short_length f e = elim (cases_lt 0xFFFFFF f.length) [
  | inl lt ↦ absurd (clash (ltb 0xFFFFFF f.length) (not (eqb f.bank_size 0) && ltb f.bank_size f.length) (lt-ltb 0xFFFFFF f.length lt) e)
  | inr le ↦ le
]
  where
    clash : (a b : Bool) → a ≡ true → (a || b) ≡ false → ⊥
    clash true b p q = cc
    clash false b p q = cc

-- ---- the header of a load segment

in_distinct : (xs : List (List ℕ)) (x : List ℕ) → IsIn (distinct xs) x → IsIn xs x
in_distinct [] x is = is
in_distinct (y ∷ ys) x (inl e) = inl e
in_distinct (y ∷ ys) x (inr more) = inr (in_distinct ys x (in_filter (λ z. not (bytes_eq z y)) (distinct ys) x more))

in_map : {A B : Type 0} (f : A → B) (xs : List A) (y : B) → IsIn (map f xs) y → (x : A) × IsIn xs x × (f x ≡ y)
in_map f [] y is = absurd is
in_map f (x ∷ xs) y (inl e) = (x, inl refl, e)
in_map f (x ∷ xs) y (inr more) = let rest = in_map f xs y more in (rest.0, inr rest.1, rest.2)

-- a load name is that of a member
of_member : (list : List Member) (x : List ℕ) → IsIn (load_names list) x → (m : Member) × IsIn list m × (m.segment.fields.load_name ≡ x)
unfolding load_names
of_member list x is = in_map (λ (m : Member). m.segment.fields.load_name) list x (in_distinct (map (λ (m : Member). m.segment.fields.load_name) list) x is)

-- which are there
pub some_members : (list : List Member) (x : List ℕ) → IsIn (load_names list) x → (m : Member) × IsIn (load_members x list) m
unfolding load_members
some_members list x is =
    let m = of_member list x is in
    (m.0, filter_in (in_load x) list m.0 m.1 ((bytes_eq-Decides m.0.segment.fields.load_name x).1 m.2))

pub first_has : (P : ℕ → Type 0) (field : HeaderFields → ℕ) (members : List Member) (m : Member) → IsIn members m → ((o : Member) → IsIn members o → P (field o.segment.fields)) → P (of_first field members)
first_has P field [] m is each = absurd is
first_has P field (o ∷ members) m is each = each o (inl refl)

lesser-le : (a b n : ℕ) → a ≤ n → b ≤ n → lesser_bank a b ≤ n
lesser-le a b n p q = elim (cases_Bool (eqb a 0)) [
  | inl a0 ↦ rw a0 q
  | inr a1 ↦ elim (cases_Bool (eqb b 0)) [
    | inl b0 ↦ rw (a1, b0) p
    | inr b1 ↦ rw (a1, b1) (omega arith)
  ]
]

bank_le : (members : List Member) → ((m : Member) → IsIn members m → HasHeader m.segment.fields) → least_bank members ≤ 0x10000
bank_le [] each = omega arith
bank_le (m ∷ members) each = lesser-le m.segment.fields.bank_size (least_bank members) 0x10000 (each m (inl refl)).bank (bank_le members (λ o is. each o (inr is)))

align_lt : (members : List Member) → ((m : Member) → IsIn members m → HasHeader m.segment.fields) → greatest_align members < 2 ^ 32
align_lt [] each = omega arith
align_lt (m ∷ members) each = omega (arith, (each m (inl refl)).align, align_lt members (λ o is. each o (inr is)))

cleared-le : (kind : ℕ) → load_segment_kind kind ≤ kind
cleared-le kind = omega arith

pub cleared-form : (kind : ℕ) → form_of (load_segment_kind kind) ≡ form_of kind
cleared-form kind = omega arith

pub load_header_fits : (list : List Member) (number : ℕ) (x : List ℕ) → ((m : Member) → IsIn list m → HasHeader m.segment.fields) → IsIn (load_names list) x → HasHeader (load_fields list number x)
unfolding load_fields load_members
load_header_fits list number x each is =
    let some = some_members list x is in
    let members = filter (in_load x) list in
    let all : (m : Member) → IsIn members m → HasHeader m.segment.fields = λ m h. each m (in_filter (in_load x) list m h) in
    let of = of_member list x is in
    let kind : of_first (λ f. f.kind) members < 2 ^ 16 = first_has (λ n. n < 2 ^ 16) (λ f. f.kind) members some.0 some.1 (λ o h. (all o h).kind) in
    record {
      bank = bank_le members all;
      kind = omega (arith, cleared-le (of_first (λ f. f.kind) members), kind);
      listed = ap is_listed (cleared-form (of_first (λ f. f.kind) members)) ∙ first_has (λ n. is_listed (form_of n) ≡ true) (λ f. f.kind) members some.0 some.1 (λ o h. (all o h).listed);
      org = first_has (λ n. n < 2 ^ 32) (λ f. f.org) members some.0 some.1 (λ o h. (all o h).org);
      align = align_lt members all;
      entry = first_has (λ n. n < 2 ^ 32) (λ f. f.entry) members some.0 some.1 (λ o h. (all o h).entry);
      load_name = ap length (sym of.2) ∙ (each of.0 of.1).load_name;
    }

-- ---- a load segment can be written

image_fits : (f : HeaderFields) (cs : List Cell) (es : List Record) → AllByRecursion IsExport es → HasHeader f → f.version ≡ 2 → f.seg_num < 2 ^ 16 → length f.name ≤ 255 → f.length ≡ length cs → length cs ≤ 0xFFFFFF → AreRuns cs
    → length (image_text (image_of f cs es)) ≤ 0x1000000 → IsImage (image_of f cs es)
unfolding image_text
image_fits f cs es exported header version number name len small runs short =
    let image : Image = record { fields = f; content = map byte_under cs; patches = patches_of_cells cs; exports = es; whole = false } in
    let n = length (image_body image) in
    let zeros : zeros_after (written_cells (map byte_under cs) (patches_of_cells cs)) ≤ length cs = subst (λ (l : List Cell). zeros_after l ≤ length cs) (sym (runs_stand cs runs)) (zeros-le cs) in
    let whole : length (header_bytes (image_fields image) n ++ image_body image) ≡ 0x37 + length f.name + n =
    omega (arith, length-append (header_bytes (image_fields image) n) (image_body image), length-header (image_fields image) n header.load_name) in
    let size : length (map byte_under cs) ≡ length cs = length-map cs byte_under in
    record {
      fits = record {
        res_spc = omega (arith, zeros, small);
        length = omega (arith, len, small);
        bank_size = omega (arith, header.bank);
        kind = header.kind;
        org = header.org;
        align = header.align;
        seg_num = number;
        entry = header.entry;
        load_name = header.load_name;
        name = name;
        total = omega (arith, whole, short);
      };
      writable = record { version = version; banks = header.bank; listed = header.listed; spaced = omega (arith, zeros, len) };
      length' = len ∙ sym size;
      small = omega (arith, size, small);
      patches' = runs_written cs runs;
      exports' = exported;
      bare = λ e. absurd cc;
    }

load_image : (list : List Member) (table : List EquateAnswer) (number : ℕ) (x : List ℕ) (es : List Record) → AllByRecursion IsExport es → HasHeader (load_fields list number x) → number < 2 ^ 16 → is_too_long (load_fields list number x) ≡ false
    → HasCells (load_length x list) (linked list table x) → length (image_text (image_of (load_fields list number x) (linked list table x) es)) ≤ 0x1000000
    → IsImage (image_of (load_fields list number x) (linked list table x) es)
unfolding load_fields
load_image list table number x es exported header small long has short =
    let f = load_fields list number x in
    let fits = short_length f long in
    image_fits f (linked list table x) es exported header refl small (omega (arith, length-trim 32 x, header.load_name)) (sym has.size') (omega (arith, has.size', fits)) has.runs short

text_parts : (image : Image) (more : List Image) → length (file_text (image ∷ more)) ≡ length (image_text image) + length (file_text more)
unfolding file_text
text_parts image more = ap length (flat_map-cons image_text image more) ∙ length-append (image_text image) (flat_map image_text more)

text_both : (xs ys : List Image) → length (file_text (xs ++ ys)) ≡ length (file_text xs) + length (file_text ys)
unfolding file_text
text_both xs ys = ap length (flat_map-append image_text xs ys) ∙ length-append (flat_map image_text xs) (flat_map image_text ys)

-- those of one load segment
exports_for_fit : (form : LinkForm) (number : ℕ) (es : List Record) → AllByRecursion IsExport es → AllByRecursion IsExport (exports_for form number es)
exports_for_fit Program number es all = tt
exports_for_fit LibraryForm number es all = by_test (eqb number 1)
  where
    by_test : (b : Bool) → AllByRecursion IsExport (cond b es [])
    by_test true = all
    by_test false = tt

load_all : (list : List Member) (table : List EquateAnswer) (number : ℕ) (xs : List (List ℕ)) → AllByRecursion IsExport (exports list table) → ((m : Member) → IsIn list m → HasHeader m.segment.fields) → MembersHave list table
    → ((x : List ℕ) → IsIn xs x → IsIn (load_names list) x) → number + length xs ≤ 255 → AllByRecursion (λ f. is_too_long f ≡ false) (headers_from list number xs)
    → length (file_text (load_images list table number xs)) ≤ 0x1000000 → AllByRecursion IsImage (load_images list table number xs)
load_all list table number [] exported each have among few shorts size = tt
load_all list table number (x ∷ xs) exported each have among few shorts size =
    let es = exports_for (form_in list) number (exports list table) in
    let image = image_of (load_fields list number x) (linked list table x) es in
    let parts = text_parts image (load_images list table (number + 1) xs) in (
      load_image list table number x es (exports_for_fit (form_in list) number (exports list table) exported) (load_header_fits list number x each (among x (inl refl))) (omega (arith, few)) shorts.0 (linked_has list table x have) (omega (arith, parts, size)),
      load_all list table (number + 1) xs exported each have (λ y is. among y (inr is)) (omega (arith, few)) shorts.1 (omega (arith, parts, size)),
    )

table_all : (number : ℕ) (ts : List Target) → number < 2 ^ 16 → length ts ≤ 4680 → AllByRecursion IsImage (table_images number ts)
table_all number [] small few = tt
table_all number (t ∷ ts) small few = ((table_stands_for number (map file_entry (t ∷ ts)) small (omega (arith, length-map (t ∷ ts) (λ (u : Target). file_entry u), few))).0, tt)

path_all : (number : ℕ) (runtimes : List RuntimeFile) → number < 2 ^ 16 → AllByRecursion IsPath (map (λ (r : RuntimeFile). r.path) runtimes) → length runtimes ≤ most_paths → AllByRecursion IsImage (path_images number runtimes)
path_all number [] small all few = tt
path_all number (r ∷ runtimes) small all few =
    (pathnames_image_is number (map (λ (one : RuntimeFile). one.path) (r ∷ runtimes)) small all (omega (arith, length-map (r ∷ runtimes) (λ (one : RuntimeFile). one.path), few)), tt)

count-tables : (number : ℕ) (ts : List Target) → length (table_images number ts) ≤ 1
count-tables number [] = omega arith
count-tables number (t ∷ ts) = omega arith

all-append : (xs ys : List Image) → AllByRecursion IsImage xs → AllByRecursion IsImage ys → AllByRecursion IsImage (xs ++ ys)
all-append [] ys p q = q
all-append (x ∷ xs) ys p q = (p.0, all-append xs ys p.1 q)

-- ---- the cells of what is read

cells_read : (f : HeaderFields) (cs : List Cell) (es : List Record) (s : Segment) → AreRuns cs → IsReadAs (image_of f cs es) s → cells s ≡ cs
cells_read f cs es s runs is = is.cells' ∙ runs_stand cs runs

loads_read : (list : List Member) (table : List EquateAnswer) (number : ℕ) (xs : List (List ℕ)) (tables : List Image) (last : List (List Cell)) (segments : List Segment) → MembersHave list table
    → ((rest : List Segment) → AreReadAs tables rest → HaveCells last rest) → AreReadAs (load_images list table number xs ++ tables) segments → HaveCells (map (linked list table) xs ++ last) segments
loads_read list table number [] tables last segments have rest are = rest segments are
loads_read list table number (x ∷ xs) tables last [] have rest are = absurd are
loads_read list table number (x ∷ xs) tables last (s ∷ segments) have rest are =
    (cells_read (load_fields list number x) (linked list table x) (exports_for (form_in list) number (exports list table)) s (linked_has list table x have).runs are.0, loads_read list table (number + 1) xs tables last segments have rest are.1)

path_read : (number : ℕ) (runtimes : List RuntimeFile) (segments : List Segment) → AreReadAs (path_images number runtimes) segments → HaveCells (path_cells runtimes) segments
path_read number [] [] are = tt
path_read number [] (s ∷ segments) are = absurd are
path_read number (r ∷ runtimes) [] are = absurd are
path_read number (r ∷ runtimes) (s ∷ []) are = (pathnames_cells number (map (λ (one : RuntimeFile). one.path) (r ∷ runtimes)) s are.0, tt)
path_read number (r ∷ runtimes) (s ∷ u ∷ segments) are = absurd are.1

-- the table, and what follows it
following_read : (number : ℕ) (ts : List Target) (more : List Image) (last : List (List Cell)) (segments : List Segment) → number < 2 ^ 16 → length ts ≤ 4680
    → ((rest : List Segment) → AreReadAs more rest → HaveCells last rest) → AreReadAs (table_images number ts ++ more) segments → HaveCells (table_cells ts ++ last) segments
following_read number [] more last segments small few rest are = rest segments are
following_read number (t ∷ ts) more last [] small few rest are = absurd are
following_read number (t ∷ ts) more last (s ∷ segments) small few rest are =
    ((table_stands_for number (map file_entry (t ∷ ts)) small (omega (arith, length-map (t ∷ ts) (λ (u : Target). file_entry u), few))).1 s are.0, rest segments are.1)

-- ---- the file

pub in_at : (list front : List Member) (m : Member) (back : List Member) → list ≡ front ++ m ∷ back → IsIn list m
in_at list front m back parts = subst (λ (l : List Member). IsIn l m) (sym parts) (there front)
  where
    there : (front : List Member) → IsIn (front ++ m ∷ back) m
    there [] = inl refl
    there (o ∷ front) = inr (there front)

few_targets : (list : List Member) (table : List EquateAnswer) → table_number list < 2 ^ 16 → AreMade list table start (items list) → AreSoundItems list table (items list) → length (targets list table) ≤ 4680
unfolding targets state_after
few_targets list table small are sound = few_on list table start (items list) small (omega arith) are sound

length-headers : (list : List Member) (number : ℕ) (xs : List (List ℕ)) → length (headers_from list number xs) ≡ length xs
length-headers list number [] = refl
length-headers list number (x ∷ xs) = ap suc (length-headers list (number + 1) xs)

count-headers : (list : List Member) → length (load_headers list) ≡ length (load_names list)
unfolding load_headers
count-headers list = length-headers list 1 (load_names list)

-- each of them can be written
pub are_images : (files : LinkInput) (list : List Member) (table : List EquateAnswer) → HasBytes files → IsResolved files list → AreSoundItems list table (items list)
    → AreMade list table start (items list) → length (written_file list table) ≤ 0x1000000 → MembersHave list table × AllByRecursion IsImage (images list table)
unfolding written_file images load_headers
are_images files list table bytes resolved sound are short =
    let read : (m : Member) → IsIn list m → IsRead m.segment = λ m is. members_read files list m bytes resolved.program is in
    let each : (m : Member) → IsIn list m → HasHeader m.segment.fields = λ m is. read_header m.segment (read m is) in
    let loads = few_loads files list resolved in
    let small : table_number list < 2 ^ 16 = omega (arith, loads) in
    let sized : AreSized list = λ front m back parts. let r = read m (in_at list front m back parts) in (read_size m.segment r, read_some m.segment r) in
    let have = members_have list table small are sound sized in
    let few : length (targets list table) ≤ 4680 = few_targets list table small are sound in
    let first = load_images list table 1 (load_names list) in
    let tables = table_images (table_number list) (targets list table) in
    let last = tables ++ path_images (table_number list + length tables) (setting_in list).runtimes in
    let parts = text_both first last in
    let paths = has_paths files list bytes resolved.program in
    let exported = exports_fit list table read (omega (arith, loads, count-headers list)) (short_loads files list resolved) in
    let following = path_all (table_number list + length tables) (setting_in list).runtimes (omega (arith, loads, count-tables (table_number list) (targets list table))) paths.paths paths.few in (
      have,
      all-append first last (load_all list table 1 (load_names list) exported each have (λ x is. is) (omega (arith, loads)) (short_loads files list resolved) (omega (arith, parts, short)))
          (all-append tables (path_images (table_number list + length tables) (setting_in list).runtimes) (table_all (table_number list) (targets list table) small few) following),
    )

pub stands_for : (files : LinkInput) (list : List Member) (table : List EquateAnswer) → HasBytes files → IsResolved files list → AreSoundItems list table (items list)
    → AreMade list table start (items list) → length (written_file list table) ≤ 0x1000000
    → (segments : List Segment) × IsFile segments (written_file list table) × AreReadAs (images list table) segments × HaveCells (linked_cells list table) segments
unfolding written_file images linked_cells
stands_for files list table bytes resolved sound are short =
    let loads = few_loads files list resolved in
    let small : table_number list < 2 ^ 16 = omega (arith, loads) in
    let few : length (targets list table) ≤ 4680 = few_targets list table small are sound in
    let both = are_images files list table bytes resolved sound are short in
    let first = load_images list table 1 (load_names list) in
    let tables = table_images (table_number list) (targets list table) in
    let number = table_number list + length tables in
    let runtimes = (setting_in list).runtimes in
    let last = tables ++ path_images number runtimes in
    let made = file_stands_for (first ++ last) both.1 in (
      made.0,
      made.1,
      made.2,
      loads_read list table 1 (load_names list) last (table_cells (targets list table) ++ path_cells runtimes) made.0 both.0
          (λ rest r. following_read (table_number list) (targets list table) (path_images number runtimes) (path_cells runtimes) rest small few (λ more q. path_read number runtimes more q) r) made.2,
    )
