-- The load segments and the table of a linked file, as they are read: each of them passes.
use Rattle.std.proofs.Common.{Ok, ◌≡◌, ℕ, zero, suc, ◌+◌, ◌-◌, ◌*◌, ◌^◌, ◌<◌, ◌≤◌, Bool, true, false, not, eqb, ltb, List, [], ◌∷◌, ◌++◌, length, map, take, filter, replicate, Option, Some, None, refl, sym, ap, subst, ◌∙◌, arith, inl, inr}
use Rattle.object_meaning.specs.Sizes.{most_bytes}
use Rattle.std.specs.Prelude.{◌⊎◌, ◌&&◌, ◌||◌, cond, slice_get, option_map}
use Rattle.std.specs.List.{AllByRecursion, list_any}
use Rattle.std.specs.Option.{option_map_or}
use Rattle.std.specs.Str.{bytes_eq}
use Rattle.std.proofs.lemmas.Bool.{cases_Bool, eq-eqb, le-ltb}
use Rattle.std.proofs.lemmas.List.{length-append, length-map}
use Rattle.std.proofs.lemmas.Slice.Eq.{bytes_eq-Decides}
use Rattle.omf_format.specs.laws.FieldLaws.{length-trim}
use Rattle.omf_format.specs.Header.{HeaderFields, form_of, first_of, is_dynamic, is_skipped}
use Rattle.omf_format.specs.Record.{Record}
use Rattle.omf_format.specs.declared.value.Value.{Value}
use Rattle.load_meaning.specs.Pathnames.{paths_of}
use Rattle.omf_format.specs.File.{Segment, IsFile, segment_at}
use Rattle.omf_format.specs.Body.{body_bytes}
use Rattle.load_meaning.specs.declared.load.LoadCause.{LoadCause}
use Rattle.load_meaning.specs.declared.load.LoadCause.TheVariants.{NotLoadFile, Unsupported, Sequence, DataTooLong, PatchOutside, NoSuchTarget, DynamicTarget, BadTable}
use Rattle.load_meaning.specs.declared.table.Target.{Target}
use Rattle.load_meaning.specs.declared.table.Entry.{Entry}
use Rattle.load_meaning.specs.Cells.{Cell, Byte, Part, Patch, segment_bytes, patches_of, cells}
use Rattle.load_meaning.specs.Table.{FitsEntry, IsTableOf, file_entry, table_bytes}
use Rattle.load_meaning.specs.laws.TableLaws.{table_laid_out}
use Rattle.load_meaning.specs.laws.WrittenTableLaws.{length-table_bytes}
use Rattle.load_meaning.specs.LoadTable.{is_table, entry_count}
use Rattle.load_meaning.specs.laws.Steps.{table_checks, express_name, is_express, is_kept, is_dynamic_at}
use Rattle.load_meaning.specs.Loadable.{Fault, segment_refusal, record_refusal, IsLoadSegment, shape_fault, patch_refusal, target_fault, table_flaw, table_fault, patch_list, IsTarget, pathnames_fault, pathnames_flaw, entry_refusal}
use Rattle.load_meaning.specs.laws.LayingLaws.{Has, get-front, get-following}
use Rattle.load_meaning.specs.laws.StoredLaws.{written_is, length-data}
use Rattle.load_meaning.specs.WrittenBody.{with_stored}
use Rattle.load_meaning.specs.WrittenFile.{Image, IsImage, AreReadAs, table_fields, table_image, pathnames_image, pathnames_fields}
use Rattle.link_meaning.specs.declared.form.LinkForm.TheVariants.{Runtime as LibraryForm}
use Rattle.link_meaning.specs.laws.SettingLaws.{HasPaths}
use Rattle.link_meaning.specs.Search.{FoundDefinition, entries}
use Rattle.link_meaning.specs.First.{IsIn}
use Rattle.link_meaning.specs.laws.MemberLists.{in_filter}
use Rattle.link_meaning.specs.Member.{Member, setting_in, RuntimeFile, form_in}
use Rattle.link_meaning.specs.laws.ReadMembers.{HasHeader}
use Rattle.link_meaning.specs.laws.MadeLaws.{FitsPlace}
use Rattle.link_meaning.specs.Layout.{in_load, distinct, load_names, number_in, load_members, of_first, load_fields, headers_from, load_headers}
use Rattle.link_meaning.specs.LinkValues.{EquateAnswer, found_value}
use Rattle.link_meaning.specs.Fitting.{load_header, is_dynamic_load, length_of}
use Rattle.link_meaning.specs.LinkedCells.{table_number, targets, linked}
use Rattle.link_meaning.specs.laws.Steps.{is_too_long, may_not_stand, image_of}
use Rattle.link_meaning.specs.LinkWritten.{run_length, patches_from, patches_of_cells, load_images, table_images, images, linked_cells, HaveCells, exports, path_images}
use Rattle.link_meaning.specs.laws.LinkWrittenLaws.{short_length, some_members, first_has, cleared-form}
use Rattle.link_meaning.specs.laws.EmitFaultLaws.{linkable_short, linkable_stands_for}
use Rattle.link_meaning.specs.LinkLoadable.{plain_fields, table_headers, linked_headers, StandFor, IsLoad, Reaches, OfLoad, OfTable, Names, IsCalled, is_skipped_load, StandsForLinkedCells, IsReadWhole, IsNamed, IsCalledHere, IsCalledThere, path_headers}
use Rattle.link_meaning.specs.laws.Reached.{MembersReach}
use Rattle.link_meaning.specs.laws.TablePasses.{pass, all_at, table_passes}
use Rattle.link_meaning.specs.laws.FarLaws.{FarFits}
use Rattle.link_meaning.specs.laws.WrittenSegments.{IsWritten, length_written, bytes_written, patches_written, records_written, no_target_fault, IsAllowedIn, body_whole}

-- ---- headers and cells of what is read

headers_read : (list : List Member) (table : List EquateAnswer) (number : ℕ) (xs : List (List ℕ)) (tables : List Image) (last : List HeaderFields) (segments : List Segment)
    → ((rest : List Segment) → AreReadAs tables rest → map (λ (s : Segment). plain_fields s.fields) rest ≡ last) → AreReadAs (load_images list table number xs ++ tables) segments
    → map (λ (s : Segment). plain_fields s.fields) segments ≡ headers_from list number xs ++ last
unfolding load_fields
headers_read list table number [] tables last segments rest are = rest segments are
headers_read list table number (x ∷ xs) tables last [] rest are = absurd are
headers_read list table number (x ∷ xs) tables last (s ∷ segments) rest are =
    ap (λ (f : HeaderFields). plain_fields f ∷ map (λ (t : Segment). plain_fields t.fields) segments) are.0.fields
    ∙ ap (λ (l : List HeaderFields). load_fields list number x ∷ l) (headers_read list table (number + 1) xs tables last segments rest are.1)

cells_read : (all : List (List Cell)) (segments : List Segment) → HaveCells all segments → map cells segments ≡ all
cells_read [] [] have = refl
cells_read [] (s ∷ segments) have = absurd have
cells_read (cs ∷ all) [] have = absurd have
cells_read (cs ∷ all) (s ∷ segments) have = ap (λ (c : List Cell). c ∷ map cells segments) have.0 ∙ ap (λ (l : List (List Cell)). cs ∷ l) (cells_read all segments have.1)

-- the headers after those of the load segments
abbrev pub after_headers : List Member → List EquateAnswer → List HeaderFields
after_headers list table =
    table_headers (table_number list) (targets list table) ++ path_headers (table_number list + length (table_headers (table_number list) (targets list table))) (setting_in list).runtimes

path_read : (number : ℕ) (runtimes : List RuntimeFile) (segments : List Segment) → AreReadAs (path_images number runtimes) segments → map (λ (s : Segment). plain_fields s.fields) segments ≡ path_headers number runtimes
unfolding pathnames_image pathnames_fields table_fields
path_read number [] [] are = refl
path_read number [] (s ∷ segments) are = absurd are
path_read number (r ∷ runtimes) [] are = absurd are
path_read number (r ∷ runtimes) (s ∷ []) are = ap (λ (f : HeaderFields). plain_fields f ∷ []) are.0.fields
path_read number (r ∷ runtimes) (s ∷ u ∷ segments) are = absurd are.1

following_read : (number : ℕ) (ts : List Target) (more : List Image) (last : List HeaderFields) (segments : List Segment)
    → ((rest : List Segment) → AreReadAs more rest → map (λ (s : Segment). plain_fields s.fields) rest ≡ last) → AreReadAs (table_images number ts ++ more) segments
    → map (λ (s : Segment). plain_fields s.fields) segments ≡ table_headers number ts ++ last
unfolding table_image table_fields
following_read number [] more last segments rest are = rest segments are
following_read number (t ∷ ts) more last [] rest are = absurd are
following_read number (t ∷ ts) more last (s ∷ segments) rest are =
    ap (λ (f : HeaderFields). plain_fields f ∷ map (λ (u : Segment). plain_fields u.fields) segments) are.0.fields
    ∙ ap (λ (l : List HeaderFields). table_fields number (length (table_bytes (map file_entry (t ∷ ts)))) ∷ l) (rest segments are.1)

pub same_count : (number : ℕ) (ts : List Target) → length (table_images number ts) ≡ length (table_headers number ts)
same_count number [] = refl
same_count number (t ∷ ts) = refl

pub stands : (list : List Member) (table : List EquateAnswer) (segments : List Segment) → AreReadAs (images list table) segments → HaveCells (linked_cells list table) segments → StandFor list table segments
unfolding images linked_headers load_headers
stands list table segments read have = record {
  headers = headers_read list table 1 (load_names list) (tables ++ path_images number (setting_in list).runtimes) (after_headers list table) segments
      (λ rest r. following_read (table_number list) (targets list table) (path_images number (setting_in list).runtimes) _ rest
      (λ more q. path_read number (setting_in list).runtimes more q ∙ ap (λ (n : ℕ). path_headers (table_number list + n) (setting_in list).runtimes) (same_count (table_number list) (targets list table))) r) read;
  cells' = cells_read (linked_cells list table) segments have;
}
  where
    tables : List Image
    tables = table_images (table_number list) (targets list table)

    number : ℕ
    number = table_number list + length tables

pub stands_for_linked_cells : StandsForLinkedCells
stands_for_linked_cells files output bytes is =
    let made = linkable_stands_for files is.list is.table bytes is.linkable in
    (made.0, subst (IsFile made.0) (sym is.is_written) made.1, stands is.list is.table made.0 made.2 made.3)

pub is_read_whole : IsReadWhole
is_read_whole files output is = subst (λ (l : List ℕ). length l ≤ most_bytes) (sym is.is_written) (linkable_short is.list is.table is.linkable.emitted)

-- ---- numbers of load segments

-- no text occurs twice
abbrev Apart : List (List ℕ) → Type 0
Apart [] = Unit {0}
Apart (x ∷ xs) = (IsIn xs x → ⊥) × Apart xs

filter_apart : (p : List ℕ → Bool) (xs : List (List ℕ)) → Apart xs → Apart (filter p xs)
filter_apart p [] apart = tt
filter_apart p (x ∷ xs) apart = by_test (p x) (filter_apart p xs apart.1)
  where
    by_test : (b : Bool) → Apart (filter p xs) → Apart (cond b (x ∷ filter p xs) (filter p xs))
    by_test true rest = (λ is. apart.0 (in_filter p xs x is), rest)
    by_test false rest = rest

-- what passes a filter passes its test
passed : (p : List ℕ → Bool) (xs : List (List ℕ)) (x : List ℕ) → IsIn (filter p xs) x → p x ≡ true
passed p [] x is = absurd is
passed p (y ∷ xs) x is = by_test (p y) refl is (λ more. passed p xs x more)
  where
    by_test : (b : Bool) → p y ≡ b → IsIn (cond b (y ∷ filter p xs) (filter p xs)) x → (IsIn (filter p xs) x → p x ≡ true) → p x ≡ true
    by_test true e (inl same) go = ap p (sym same) ∙ e
    by_test true e (inr more) go = go more
    by_test false e more go = go more

distinct_apart : (xs : List (List ℕ)) → Apart (distinct xs)
distinct_apart [] = tt
distinct_apart (x ∷ xs) = (λ is. absurd (other (passed (λ y. not (bytes_eq y x)) (distinct xs) x is)), filter_apart (λ y. not (bytes_eq y x)) (distinct xs) (distinct_apart xs))
  where
    other : not (bytes_eq x x) ≡ true → ⊥
    other e = let clash : not true ≡ true = ap not (sym ((bytes_eq-Decides x x).1 refl)) ∙ e in absurd cc

apart_number : (front : List (List ℕ)) (x : List ℕ) (back : List (List ℕ)) → Apart (front ++ x ∷ back) → number_in (front ++ x ∷ back) x ≡ length front + 1
apart_number [] x back apart = ap (λ (b : Bool). cond b 1 (1 + number_in back x)) ((bytes_eq-Decides x x).1 refl)
apart_number (y ∷ front) x back apart =
    let rest = apart_number front x back apart.1 in
    ap (λ (b : Bool). cond b 1 (1 + number_in (front ++ x ∷ back) x)) (by_test (bytes_eq y x) refl) ∙ omega (arith, rest)
  where
    there : (l : List (List ℕ)) → IsIn (l ++ x ∷ back) x
    there [] = inl refl
    there (z ∷ l) = inr (there l)

    by_test : (b : Bool) → bytes_eq y x ≡ b → bytes_eq y x ≡ false
    by_test true e = absurd (apart.0 (subst (λ (z : List ℕ). IsIn (front ++ x ∷ back) z) (sym ((bytes_eq-Decides y x).0 e)) (there front)))
    by_test false e = e

pub number_is : (list : List Member) (front : List (List ℕ)) (x : List ℕ) (back : List (List ℕ)) → load_names list ≡ front ++ x ∷ back → number_in (load_names list) x ≡ length front + 1
unfolding load_names
number_is list front x back parts =
    let apart = distinct_apart (map (λ (m : Member). m.segment.fields.load_name) list) in
    ap (λ (l : List (List ℕ)). number_in l x) parts ∙ apart_number front x back (subst Apart parts apart)

-- ---- lists by places

-- what is before a place and after it
pub record Split {A : Type 0} (xs : List A) (k : ℕ) (x : A) : Type 0 where
  pub front : List A
  pub back : List A
  pub parts : xs ≡ front ++ x ∷ back
  pub size : length front ≡ k

pub split_at : {A : Type 0} (xs : List A) (k : ℕ) (x : A) → slice_get xs k ≡ Some x → Split xs k x
split_at [] k x e = absurd cc
split_at {A} (y ∷ xs) zero x e = record { front = []; back = xs; parts = ap (λ (z : A). z ∷ xs) (same y x e); size = refl }
  where
    same : (a b : A) → Some a ≡ Some b → a ≡ b
    same a b e = cc
split_at {A} (y ∷ xs) (suc k) x e =
    let rest = split_at xs k x e in
    record { front = y ∷ rest.front; back = rest.back; parts = ap (λ (l : List A). y ∷ l) rest.parts; size = ap suc rest.size }

some_at : {A : Type 0} (xs : List A) (k : ℕ) → k < length xs → (x : A) × (slice_get xs k ≡ Some x)
some_at [] k lt = absurd (omega arith)
some_at (x ∷ xs) zero lt = (x, refl)
some_at (x ∷ xs) (suc k) lt = some_at xs k (omega arith)

mapped : {A B : Type 0} (f : A → B) (xs : List A) (k : ℕ) (y : B) → slice_get (map f xs) k ≡ Some y → (x : A) × (slice_get xs k ≡ Some x) × (f x ≡ y)
mapped f [] k y e = absurd cc
mapped {A} {B} f (x ∷ xs) zero y e = (x, refl, same (f x) y e)
  where
    same : (a b : B) → Some a ≡ Some b → a ≡ b
    same a b e = cc
mapped f (x ∷ xs) (suc k) y e = mapped f xs k y e

-- ---- load segments of what is read

abbrev pub plain : Segment → HeaderFields
plain s = plain_fields s.fields

length-headers : (list : List Member) (number : ℕ) (xs : List (List ℕ)) → length (headers_from list number xs) ≡ length xs
length-headers list number [] = refl
length-headers list number (x ∷ xs) = ap suc (length-headers list (number + 1) xs)

pub count-headers : (list : List Member) → length (load_headers list) ≡ length (load_names list)
unfolding load_headers
count-headers list = length-headers list 1 (load_names list)

-- a load segment: its header in the layout, and where it is read
pub record HasLoad (list : List Member) (segments : List Segment) (number : ℕ) : Type 0 where
  pub fields : HeaderFields
  pub header : load_header (load_headers list) number ≡ Some fields
  pub s : Segment
  pub is : segment_at segments number ≡ Some s
  pub kind : s.fields.kind ≡ fields.kind
  pub length' : s.fields.length ≡ fields.length

pub load_there : (list : List Member) (table : List EquateAnswer) (segments : List Segment) (number : ℕ) → StandFor list table segments → IsLoad (length (load_names list)) number → HasLoad list segments number
unfolding linked_headers
load_there list table segments zero stand is = absurd (omega (arith, is.0))
load_there list table segments (suc k) stand is =
    let count = count-headers list in
    let inside : k < length (load_headers list) = omega (arith, count, is.1) in
    let f = some_at (load_headers list) k inside in
    let found : slice_get (map plain segments) k ≡ Some f.0 = ap (λ (l : List HeaderFields). slice_get l k) stand.headers ∙ get-front (load_headers list) (after_headers list table) k inside ∙ f.1 in
    let s = mapped plain segments k f.0 found in
    let place : suc k - 1 ≡ k = omega arith in
    record {
      fields = f.0;
      header = ap (slice_get (load_headers list)) place ∙ f.1;
      s = s.0;
      is = s.1;
      kind = ap (λ (g : HeaderFields). g.kind) s.2;
      length' = ap (λ (g : HeaderFields). g.length) s.2;
    }

-- the table, where there is an entry
record HasTable (segments : List Segment) (number : ℕ) : Type 0 where
  pub s : Segment
  pub is : segment_at segments number ≡ Some s
  pub kind : s.fields.kind ≡ 0x0002

table_there : (list : List Member) (table : List EquateAnswer) (segments : List Segment) → StandFor list table segments → (targets list table ≡ [] → ⊥) → HasTable segments (table_number list)
unfolding linked_headers table_fields
table_there list table segments stand some = by_targets (targets list table) refl
  where
    by_targets : (ts : List Target) → targets list table ≡ ts → HasTable segments (table_number list)
    by_targets [] e = absurd (some e)
    by_targets (t ∷ ts) e =
        let f = table_fields (table_number list) (length (table_bytes (map file_entry (t ∷ ts)))) in
        let k = length (load_names list) in
        let more = path_headers (table_number list + length (table_headers (table_number list) (t ∷ ts))) (setting_in list).runtimes in
        let parts : map plain segments ≡ load_headers list ++ f ∷ more =
        stand.headers ∙ ap (λ (l : List Target). load_headers list ++ (table_headers (table_number list) l ++ path_headers (table_number list + length (table_headers (table_number list) l)) (setting_in list).runtimes)) e in
        let following : k ≡ length (load_headers list) + 0 = omega (arith, count-headers list) in
        let found : slice_get (map plain segments) k ≡ Some f = ap (λ (l : List HeaderFields). slice_get l k) parts ∙ get-following (load_headers list) (f ∷ more) k 0 following in
        let s = mapped plain segments k f found in
        let place : table_number list ≡ suc k = omega arith in
        record { s = s.0; is = ap (segment_at segments) place ∙ s.1; kind = ap (λ (g : HeaderFields). g.kind) s.2 }

-- ---- patches

patch_all : (P : ℕ → Type 0) (at : ℕ) (cs : List Cell) → AllByRecursion (λ (c : Cell). Names P c) cs → AllByRecursion (λ (p : Patch). P p.segment) (patches_from at cs)
patch_all P at [] all = tt
patch_all P at (Byte b ∷ cs) all = patch_all P (at + 1) cs all.1
patch_all P at (Part file segment offset shift index ∷ cs) all = by_test (eqb index 0) (patch_all P (at + 1) cs all.1)
  where
    by_test : (b : Bool) → AllByRecursion (λ (p : Patch). P p.segment) (patches_from (at + 1) cs)
        → AllByRecursion (λ (p : Patch). P p.segment) (cond b (record { location = at; count = 1 + run_length (record { location = at; count = 1; file = file; segment = segment; offset = offset; shift = shift }) 1 cs; file = file; segment = segment; offset = offset; shift = shift } ∷ []) [] ++ patches_from (at + 1) cs)
    by_test true rest = (all.0, rest)
    by_test false rest = rest

patches_name : (P : ℕ → Type 0) (cs : List Cell) → AllByRecursion (λ (c : Cell). Names P c) cs → AllByRecursion (λ (p : Patch). P p.segment) (patches_of_cells cs)
unfolding patches_of_cells
patches_name P cs all = patch_all P 0 cs all

has_one : (Q : Patch → Type 0) (l : List Patch) (p : Patch) → AllByRecursion Q l → Has l p → Q p
has_one Q [] p all h = absurd h
has_one Q (q ∷ l) p all (inl same) = subst Q (sym same) all.0
has_one Q (q ∷ l) p all (inr more) = has_one Q l p all.1 more

has_all : (Q : Patch → Type 0) (l : List Patch) → ((p : Patch) → Has l p → Q p) → AllByRecursion Q l
has_all Q [] each = tt
has_all Q (p ∷ l) each = (each p (inl refl), has_all Q l (λ q h. each q (inr h)))

kept_there : (o : Option Segment) (s : Segment) → o ≡ Some s → is_skipped s.fields.kind ≡ false → option_map_or (λ (t : Segment). not (is_skipped t.fields.kind)) o false ≡ true
kept_there o s is kept = ap (λ (p : Option Segment). option_map_or (λ (t : Segment). not (is_skipped t.fields.kind)) p false) is ∙ ap not kept

static_there : (o : Option Segment) (s : Segment) → o ≡ Some s → is_dynamic s.fields.kind ≡ false → option_map_or (λ (t : Segment). is_dynamic t.fields.kind) o false ≡ false
static_there o s is static = ap (λ (p : Option Segment). option_map_or (λ (t : Segment). is_dynamic t.fields.kind) p false) is ∙ static

-- an attribute in the layout is one of what is read
pub skip_read : (list : List Member) (segments : List Segment) (number : ℕ) (l : HasLoad list segments number) → is_skipped_load (load_headers list) number ≡ false → is_skipped l.s.fields.kind ≡ false
skip_read list segments number l none =
    ap is_skipped l.kind ∙ sym (ap (λ (o : Option HeaderFields). elim o as (λ x. Bool) [ None ↦ false | Some f ↦ is_skipped f.kind ]) l.header) ∙ none

dynamic_read : (list : List Member) (segments : List Segment) (number : ℕ) (l : HasLoad list segments number) → is_dynamic l.s.fields.kind ≡ is_dynamic_load (load_headers list) number
dynamic_read list segments number l =
    ap is_dynamic l.kind ∙ sym (ap (λ (o : Option HeaderFields). elim o as (λ x. Bool) [ None ↦ false | Some f ↦ is_dynamic f.kind ]) l.header)

pub length_read : (list : List Member) (segments : List Segment) (number : ℕ) (l : HasLoad list segments number) → l.s.fields.length ≡ length_of (load_headers list) number
length_read list segments number l =
    l.length' ∙ sym (ap (λ (o : Option HeaderFields). elim o as (λ x. ℕ) [ None ↦ 0 | Some f ↦ f.length ]) l.header)

-- a patch that names what it may, and nothing that is skipped, is allowed there
patch_passes : (list : List Member) (table : List EquateAnswer) (segments : List Segment) (s : Segment) (own : ℕ) (p : Patch) → StandFor list table segments → s.fields.seg_num ≡ own → p.file ≡ 1 → p.location + p.count ≤ s.fields.length
    → Reaches list (targets list table) own p.segment → is_skipped_load (load_headers list) p.segment ≡ false → patch_refusal segments s p ≡ None
unfolding patch_refusal
patch_passes list table segments s own p stand number file inside reaches none = by_reach reaches
  where
    done : is_kept segments p.segment ≡ true → (not (eqb p.segment s.fields.seg_num) && is_dynamic_at segments p.segment) ≡ false → first_of (
        (ltb s.fields.length (p.location + p.count), PatchOutside)
        ∷ (not (eqb p.file 1 && is_kept segments p.segment), NoSuchTarget)
        ∷ (not (eqb p.segment s.fields.seg_num) && is_dynamic_at segments p.segment, DynamicTarget)
        ∷ []) ≡ None
    done kept near =
        let three : Bool × LoadCause = (not (eqb p.segment s.fields.seg_num) && is_dynamic_at segments p.segment, DynamicTarget) in
        let two : Bool × LoadCause = (not (eqb p.file 1 && is_kept segments p.segment), NoSuchTarget) in
        let target : (eqb p.file 1 && is_kept segments p.segment) ≡ true = ap (λ (b : Bool). b && is_kept segments p.segment) (eq-eqb p.file 1 file) ∙ kept in
        pass (ltb s.fields.length (p.location + p.count)) PatchOutside (two ∷ three ∷ []) (le-ltb s.fields.length (p.location + p.count) inside)
        (pass two.0 two.1 (three ∷ []) (ap not target) (pass three.0 three.1 [] near refl))

    own_near : p.segment ≡ own → (not (eqb p.segment s.fields.seg_num) && is_dynamic_at segments p.segment) ≡ false
    own_near is = ap (λ (b : Bool). not b && is_dynamic_at segments p.segment) (eq-eqb p.segment s.fields.seg_num (is ∙ sym number))

    static_near : is_dynamic_at segments p.segment ≡ false → (not (eqb p.segment s.fields.seg_num) && is_dynamic_at segments p.segment) ≡ false
    static_near is = ap (λ (b : Bool). not (eqb p.segment s.fields.seg_num) && b) is ∙ last (not (eqb p.segment s.fields.seg_num))
      where
        last : (b : Bool) → (b && false) ≡ false
        last true = refl
        last false = refl

    by_reach : Reaches list (targets list table) own p.segment → first_of (
        (ltb s.fields.length (p.location + p.count), PatchOutside)
        ∷ (not (eqb p.file 1 && is_kept segments p.segment), NoSuchTarget)
        ∷ (not (eqb p.segment s.fields.seg_num) && is_dynamic_at segments p.segment, DynamicTarget)
        ∷ []) ≡ None
    by_reach (OfLoad load near) =
        let l = load_there list table segments p.segment stand load in
        done (kept_there (segment_at segments p.segment) l.s l.is (skip_read list segments p.segment l none)) (by_near near)
      where
        by_near : (p.segment ≡ own) ⊎ (is_dynamic_load (load_headers list) p.segment ≡ false) → (not (eqb p.segment s.fields.seg_num) && is_dynamic_at segments p.segment) ≡ false
        by_near (inl is) = own_near is
        by_near (inr static) =
            let l = load_there list table segments p.segment stand load in
            static_near (static_there (segment_at segments p.segment) l.s l.is (dynamic_read list segments p.segment l ∙ static))
    by_reach (OfTable is some) =
        let t = table_there list table segments stand some in
        let there : segment_at segments p.segment ≡ Some t.s = ap (segment_at segments) is ∙ t.is in
        done (kept_there (segment_at segments p.segment) t.s there (ap is_skipped t.kind)) (static_near (static_there (segment_at segments p.segment) t.s there (ap is_dynamic t.kind)))

-- ---- kinds and names

-- no jump table, no list of pathnames, no dictionary
abbrev pub PlainKind : ℕ → Type 0
PlainKind kind = (eqb (form_of kind) 0x02 ≡ false) × (eqb (form_of kind) 0x04 ≡ false) × (eqb (form_of kind) 0x08 ≡ false)

pub load_kind : (list : List Member) (number : ℕ) (x : List ℕ) → ((m : Member) → IsIn list m → PlainKind m.segment.fields.kind) → IsIn (load_names list) x → PlainKind (load_fields list number x).kind
unfolding load_fields load_members
load_kind list number x each is =
    let some = some_members list x is in
    let members = filter (in_load x) list in
    let kind = of_first (λ f. f.kind) members in
    let first : PlainKind kind = first_has PlainKind (λ f. f.kind) members some.0 some.1 (λ o h. each o (in_filter (in_load x) list o h)) in
    subst (λ (n : ℕ). (eqb n 0x02 ≡ false) × (eqb n 0x04 ≡ false) × (eqb n 0x08 ≡ false)) (sym (cleared-form kind)) first

other_text : (a b : List ℕ) → length a ≤ 10 → 11 ≤ length b → bytes_eq a b ≡ false
other_text a b short long = elim (cases_Bool (bytes_eq a b)) [
  | inl same ↦ absurd (omega (arith, ap length ((bytes_eq-Decides a b).0 same), short, long))
  | inr other ↦ other
]

not_express : (name : List ℕ) → length name ≤ 10 → is_express name ≡ false
not_express name short =
    ap (λ (b : Bool). b || bytes_eq name (126 ∷ express_name)) (other_text name express_name short (omega arith)) ∙ other_text name (126 ∷ express_name) short (omega arith)

pub front_passes : (f : HeaderFields) → is_express f.name ≡ false → eqb (form_of f.kind) 0x08 ≡ false → segment_refusal f ≡ None
unfolding segment_refusal
front_passes f name dictionary =
    pass (is_express f.name) Unsupported ((eqb (form_of f.kind) 0x08, NotLoadFile) ∷ []) name
    (pass (eqb (form_of f.kind) 0x08) NotLoadFile [] dictionary refl)

-- ---- each segment

allowed_only : (segments : List Segment) (founds : List (ℕ × Record)) → AllByRecursion (λ (found : ℕ × Record). IsAllowedIn segments found.1) founds → AllByRecursion (λ (found : ℕ × Record). record_refusal found.1 ≡ None) founds
allowed_only segments [] all = tt
allowed_only segments (found ∷ founds) all = (all.0.0, allowed_only segments founds all.1)

pub load_segment : (image : Image) (segments : List Segment) (s : Segment) → IsWritten image s → AllByRecursion (λ r. entry_refusal segments r ≡ None) image.exports → segment_refusal s.fields ≡ None → IsLoadSegment s
load_segment image segments s is names front = record { front = front; records = allowed_only segments s.records (records_written image segments s is names) }

number_read : (image : Image) (s : Segment) → IsWritten image s → s.fields.seg_num ≡ image.fields.seg_num
number_read image s is = ap (λ (f : HeaderFields). f.seg_num) is.read.fields

shape_passes : (image : Image) (s : Segment) (number : ℕ) → image.whole ≡ false → IsWritten image s → image.fields.seg_num ≡ number → shape_fault number s ≡ None
unfolding shape_fault segment_bytes
shape_passes image s number part is e =
    let body = length (body_bytes s) in
    let whole : length (body_bytes s ++ replicate (s.fields.length - body) 0) ≡ length image.content = ap length (bytes_written image s part is) ∙ length-data image.fields.seg_num image.patches image.content is.image'.patches' in
    let fits : body ≤ s.fields.length = omega (arith, whole, length-append (body_bytes s) (replicate (s.fields.length - body) 0), length_written image s is) in
    pass (not (eqb s.fields.seg_num number)) (Sequence, s.start) ((ltb s.fields.length body, (DataTooLong, s.start)) ∷ []) (ap not (eq-eqb s.fields.seg_num number (number_read image s is ∙ e)))
    (pass (ltb s.fields.length body) (DataTooLong, s.start) [] (le-ltb s.fields.length body fits) refl)

pub shape_whole : (image : Image) (s : Segment) (number : ℕ) → image.whole ≡ true → IsWritten image s → image.fields.seg_num ≡ number → shape_fault number s ≡ None
unfolding shape_fault
shape_whole image s number whole is e =
    let body = length (body_bytes s) in
    let fits : body ≤ s.fields.length = omega (arith, ap length (body_whole image s whole is), length_written image s is) in
    pass (not (eqb s.fields.seg_num number)) (Sequence, s.start) ((ltb s.fields.length body, (DataTooLong, s.start)) ∷ []) (ap not (eq-eqb s.fields.seg_num number (number_read image s is ∙ e)))
    (pass (ltb s.fields.length body) (DataTooLong, s.start) [] (le-ltb s.fields.length body fits) refl)

-- a segment passes all phases
pub record Passes (segments : List Segment) (number : ℕ) (s : Segment) : Type 0 where
  pub first : IsLoadSegment s
  pub shape : shape_fault number s ≡ None
  pub target : target_fault segments number s ≡ None
  pub paths : pathnames_fault segments number s ≡ None
  pub table' : table_fault segments number s ≡ None

abbrev pub AllPass : List Segment → ℕ → List Segment → Type 0
AllPass segments number [] = Unit {0}
AllPass segments number (s ∷ more) = Passes segments number s × AllPass segments (number + 1) more

-- the image of a load segment
fields_of_image : (f : HeaderFields) (cs : List Cell) (es : List Record) → (image_of f cs es).fields ≡ f
fields_of_image f cs es = refl

patches_of_image : (f : HeaderFields) (cs : List Cell) (es : List Record) → (image_of f cs es).patches ≡ patches_of_cells cs
patches_of_image f cs es = refl

part_image : (f : HeaderFields) (cs : List Cell) (es : List Record) → (image_of f cs es).whole ≡ false
part_image f cs es = refl

exports_of_image : (f : HeaderFields) (cs : List Cell) (es : List Record) → (image_of f cs es).exports ≡ es
exports_of_image f cs es = refl

number_of_load : (list : List Member) (number : ℕ) (x : List ℕ) → (load_fields list number x).seg_num ≡ number
unfolding load_fields
number_of_load list number x = refl

name_of_load : (list : List Member) (number : ℕ) (x : List ℕ) → length (load_fields list number x).name ≤ length x
unfolding load_fields
name_of_load list number x = length-trim 32 x

pub load_passes : (list : List Member) (table : List EquateAnswer) (segments : List Segment) (number : ℕ) (x : List ℕ) (es : List Record) (s : Segment) → AllByRecursion (λ r. entry_refusal segments r ≡ None) es → StandFor list table segments → IsWritten (image_of (load_fields list number x) (linked list table x) es) s
    → AllByRecursion (λ (c : Cell). Names (Reaches list (targets list table) number) c) (linked list table x)
    → AllByRecursion (λ (c : Cell). Names (λ (n : ℕ). is_skipped_load (load_headers list) n ≡ false) c) (linked list table x)
    → PlainKind (load_fields list number x).kind → length x ≡ 10 → Passes segments number s
load_passes list table segments number x es s names stand is reach none kind ten =
    let f = load_fields list number x in
    let image = image_of f (linked list table x) es in
    let part = part_image f (linked list table x) es in
    let named = subst (AllByRecursion (λ r. entry_refusal segments r ≡ None)) (sym (exports_of_image f (linked list table x) es)) names in
    let own : image.fields.seg_num ≡ number = ap (λ (g : HeaderFields). g.seg_num) (fields_of_image f (linked list table x) es) ∙ number_of_load list number x in
    let number' : s.fields.seg_num ≡ number = number_read image s is ∙ own in
    let kind' : s.fields.kind ≡ f.kind = ap (λ (g : HeaderFields). g.kind) is.read.fields ∙ ap (λ (g : HeaderFields). g.kind) (fields_of_image f (linked list table x) es) in
    let name : s.fields.name ≡ f.name = ap (λ (g : HeaderFields). g.name) is.read.fields ∙ ap (λ (g : HeaderFields). g.name) (fields_of_image f (linked list table x) es) in
    let plain' : PlainKind s.fields.kind = subst PlainKind (sym kind') kind in
    let short : length s.fields.name ≤ 10 = omega (arith, ap length name, name_of_load list number x, ten) in
    let reach' = subst (AllByRecursion (λ (p : Patch). Reaches list (targets list table) number p.segment)) (sym (patches_of_image f (linked list table x) es)) (patches_name (Reaches list (targets list table) number) (linked list table x) reach) in
    let none' = subst (AllByRecursion (λ (p : Patch). is_skipped_load (load_headers list) p.segment ≡ false)) (sym (patches_of_image f (linked list table x) es)) (patches_name (λ (n : ℕ). is_skipped_load (load_headers list) n ≡ false) (linked list table x) none) in
    let one : (p : Patch) → Has (patch_list s) p → patch_refusal segments s p ≡ None =
    λ p h. let there = patches_written image s part is p h in
    let w = (written_is (length image.content) 0 image.patches p is.image'.patches' there).0 in
    patch_passes list table segments s number p stand number' w.file' (omega (arith, w.inside, length_written image s is)) (has_one (λ (q : Patch). Reaches list (targets list table) number q.segment) image.patches p reach' there) (has_one (λ (q : Patch). is_skipped_load (load_headers list) q.segment ≡ false) image.patches p none' there) in
    record {
      first = load_segment image segments s is named (front_passes s.fields (not_express s.fields.name short) plain'.2);
      shape = shape_passes image s number part is own;
      target = no_target_fault segments number s (records_written image segments s is named) (has_all (λ (p : Patch). patch_refusal segments s p ≡ None) (patch_list s) one);
      paths = ap (λ (b : Bool). cond b (option_map (λ (at : ℕ). table_answer at) (pathnames_flaw segments number s)) None) plain'.1;
      table' = ap (λ (b : Bool). cond b (option_map (λ (at : ℕ). table_answer at) (table_flaw segments number s)) None) plain'.0;
    }
  where
    table_answer : ℕ → Fault
    table_answer at = (BadTable, at)

-- ---- what is known of linkable files

-- of the linked list and the table
pub record Known (list : List Member) (table : List EquateAnswer) : Type 0 where
  pub reach : MembersReach list table
  pub called : AllByRecursion (IsCalled list) (targets list table)
  pub kinds : (m : Member) → IsIn list m → PlainKind m.segment.fields.kind
  pub headers : (m : Member) → IsIn list m → HasHeader m.segment.fields
  pub few : length (load_names list) ≤ 254
  pub short : AllByRecursion (λ f. is_too_long f ≡ false) (load_headers list)
  pub images' : AllByRecursion IsImage (images list table)
  pub some : load_names list ≡ [] → ⊥
  pub far : FarFits (setting_in list)
  pub paths : HasPaths list
  pub standing : AllByRecursion (λ f. may_not_stand (form_in list) f ≡ false) (load_headers list)
  pub lone : form_in list ≡ LibraryForm → (setting_in list).runtimes ≡ []
  pub values : (f : FoundDefinition) → IsIn (entries list) f → (v : Value) → found_value list table f ≡ Ok v → FitsPlace (IsNamed list) v

-- ---- the table

-- the segments before it have another form
pub none_before : (form : ℕ) (fs last : List HeaderFields) (segments : List Segment) → map plain segments ≡ fs ++ last → AllByRecursion (λ (f : HeaderFields). eqb (form_of f.kind) form ≡ false) fs
    → list_any (λ (s : Segment). eqb (form_of s.fields.kind) form) (take (length fs) segments) ≡ false
none_before form [] last segments e all = refl
none_before form (f ∷ fs) last [] e all = absurd cc
none_before form (f ∷ fs) last (s ∷ segments) e all =
    let head : plain s ≡ f = heads (plain s) f (map plain segments) (fs ++ last) e in
    let here : eqb (form_of s.fields.kind) form ≡ false = ap (λ (g : HeaderFields). eqb (form_of g.kind) form) head ∙ all.0 in
    ap (λ (b : Bool). b || list_any (λ (u : Segment). eqb (form_of u.fields.kind) form) (take (length fs) segments)) here ∙ none_before form fs last segments (tails (plain s) f (map plain segments) (fs ++ last) e) all.1
  where
    heads : (a b : HeaderFields) (xs ys : List HeaderFields) → a ∷ xs ≡ b ∷ ys → a ≡ b
    heads a b xs ys e = cc

    tails : (a b : HeaderFields) (xs ys : List HeaderFields) → a ∷ xs ≡ b ∷ ys → xs ≡ ys
    tails a b xs ys e = cc

-- a target is there
target_there : (list : List Member) (table : List EquateAnswer) (segments : List Segment) (t : Target) → StandFor list table segments → IsCalledHere list t → is_skipped_load (load_headers list) t.segment ≡ false → IsTarget segments t
target_there list table segments t stand called none =
    let l = load_there list table segments t.segment stand called.load in
    inl (record {
      file' = called.file';
      segment' = l.s;
      is = l.is;
      dynamic = dynamic_read list segments t.segment l ∙ called.dynamic;
      kept = skip_read list segments t.segment l none;
      inside = omega (arith, called.inside, length_read list segments t.segment l);
    })

pub targets_there : (list : List Member) (table : List EquateAnswer) (segments : List Segment) (ts : List Target) → StandFor list table segments → length (paths_of segments) ≡ length (setting_in list).runtimes → AllByRecursion (IsCalled list) ts
    → AllByRecursion (λ (t : Target). t.file ≡ 1 → is_skipped_load (load_headers list) t.segment ≡ false) ts → AllByRecursion (IsTarget segments) ts
targets_there list table segments [] stand rows called none = tt
targets_there list table segments (t ∷ ts) stand rows called none = (by_file called.0.1, targets_there list table segments ts stand rows called.1 none.1)
  where
    by_file : IsCalledHere list t ⊎ IsCalledThere list t → IsTarget segments t
    by_file (inl here) = target_there list table segments t stand here (none.0 here.file')
    by_file (inr far) = inr (record { beyond = far.file'.0; row = omega (arith, far.file'.1, rows) })

-- an entry's numbers fit
fits_here : (list : List Member) (t : Target) → length (load_names list) ≤ 254 → AllByRecursion (λ f. is_too_long f ≡ false) (load_headers list) → IsCalledHere list t → FitsEntry (file_entry t)
fits_here list t few short called = record {
  user = omega arith;
  file = omega (arith, called.file');
  segment = omega (arith, called.load, few);
  offset = by_header (load_header (load_headers list) t.segment) refl;
  loaded = tt;
}
  where
    length_is : (o : Option HeaderFields) → load_header (load_headers list) t.segment ≡ o → length_of (load_headers list) t.segment ≡ elim o as (λ x. ℕ) [ None ↦ 0 | Some f ↦ f.length ]
    length_is o e = ap (λ (p : Option HeaderFields). elim p as (λ x. ℕ) [ None ↦ 0 | Some f ↦ f.length ]) e

    by_header : (o : Option HeaderFields) → load_header (load_headers list) t.segment ≡ o → t.offset < 2 ^ 32
    by_header None e = absurd (omega (arith, called.inside, length_is None e))
    by_header (Some f) e = omega (arith, called.inside, length_is (Some f) e, short_length f (all_at (λ g. is_too_long g ≡ false) (load_headers list) (t.segment - 1) f short e))

fits_there : (list : List Member) (t : Target) → FarFits (setting_in list) → length (setting_in list).runtimes ≤ 16 → IsCalledThere list t → FitsEntry (file_entry t)
fits_there list t far few called =
    let fits = far t.file t.segment t.offset called.inside in
    record { user = omega arith; file = omega (arith, called.file'.1, few); segment = fits.0; offset = fits.1; loaded = tt }

fits_entry : (list : List Member) (table : List EquateAnswer) (t : Target) → Known list table → IsCalled list t → FitsEntry (file_entry t)
fits_entry list table t k (form, inl here) = fits_here list t k.few k.short here
fits_entry list table t k (form, inr far) = fits_there list t k.far k.paths.few far

pub entries_fit : (list : List Member) (table : List EquateAnswer) (ts : List Target) → Known list table → AllByRecursion (IsCalled list) ts → (k : ℕ) (entry : Entry) → slice_get (map file_entry ts) k ≡ Some entry → FitsEntry entry
entries_fit list table ts known called k entry e =
    let t = mapped (λ (u : Target). file_entry u) ts k entry e in
    subst FitsEntry t.2 (fits_entry list table t.0 known (all_at (IsCalled list) ts k t.0 called t.1))

no_patches : (l : List Patch) → ((p : Patch) → Has l p → ⊥) → l ≡ []
no_patches [] none = refl
no_patches (p ∷ l) none = absurd (none p (inl refl))

fields_of_table : (number : ℕ) (entries : List Entry) → (table_image number entries).fields ≡ table_fields number (length (table_bytes entries))
unfolding table_image
fields_of_table number entries = refl

content_of_table : (number : ℕ) (entries : List Entry) → (table_image number entries).content ≡ table_bytes entries
unfolding table_image
content_of_table number entries = refl

patches_of_table : (number : ℕ) (entries : List Entry) → (table_image number entries).patches ≡ []
unfolding table_image
patches_of_table number entries = refl

-- what a header of the table says
record TableHeader (number : ℕ) (f : HeaderFields) : Type 0 where
  pub kind : f.kind ≡ 0x0002
  pub name : is_express f.name ≡ false
  pub number' : f.seg_num ≡ number

table_header : (number size : ℕ) → TableHeader number (table_fields number size)
unfolding table_fields
table_header number size = record { kind = refl; name = refl; number' = refl }

part_of_table : (number : ℕ) (entries : List Entry) → (table_image number entries).whole ≡ false
unfolding table_image
part_of_table number entries = refl

exports_of_table : (number : ℕ) (entries : List Entry) → (table_image number entries).exports ≡ []
unfolding table_image
exports_of_table number entries = refl

pub table_passes' : (list : List Member) (table : List EquateAnswer) (segments : List Segment) (s : Segment) (ts : List Target) → StandFor list table segments → IsWritten (table_image (table_number list) (map file_entry ts)) s
    → AllByRecursion (λ (f : HeaderFields). eqb (form_of f.kind) 0x02 ≡ false) (load_headers list) → ((k : ℕ) (entry : Entry) → slice_get (map file_entry ts) k ≡ Some entry → FitsEntry entry) → AllByRecursion (IsTarget segments) ts
    → Passes segments (table_number list) s
unfolding table_flaw linked_headers
table_passes' list table segments s ts stand is kinds fits there =
    let number = table_number list in
    let entries = map file_entry ts in
    let image = table_image number entries in
    let part = part_of_table number entries in
    let named = subst (AllByRecursion (λ r. entry_refusal segments r ≡ None)) (sym (exports_of_table number entries)) tt in
    let f = table_fields number (length (table_bytes entries)) in
    let h = table_header number (length (table_bytes entries)) in
    let fields = fields_of_table number entries in
    let own : image.fields.seg_num ≡ number = ap (λ (g : HeaderFields). g.seg_num) fields ∙ h.number' in
    let kind : s.fields.kind ≡ 0x0002 = ap (λ (g : HeaderFields). g.kind) is.read.fields ∙ ap (λ (g : HeaderFields). g.kind) fields ∙ h.kind in
    let name : is_express s.fields.name ≡ false = ap (λ (g : HeaderFields). is_express g.name) is.read.fields ∙ ap (λ (g : HeaderFields). is_express g.name) fields ∙ h.name in
    let no_patch : (p : Patch) → Has (patch_list s) p → ⊥ = λ p h. subst (λ (l : List Patch). Has l p) (patches_of_table number entries) (patches_written image s part is p h) in
    let no_list : length (patches_of s) ≡ 0 = sym (length-map (patches_of s) (λ (found : ℕ × Patch). found.1)) ∙ ap length (no_patches (patch_list s) no_patch) in
    let bytes : segment_bytes s ≡ table_bytes entries = bytes_written image s part is ∙ ap (with_stored image.fields.seg_num image.content) (patches_of_table number entries) ∙ content_of_table number entries in
    let n = length ts in
    let count : length entries ≡ n = length-map ts (λ (t : Target). file_entry t) in
    let size : s.fields.length ≡ 12 + 14 * n = length_written image s is ∙ ap length (content_of_table number entries) ∙ length-table_bytes entries ∙ ap (λ (k : ℕ). 12 + 14 * k) count in
    let entries' : entry_count s.fields.length ≡ n = omega (arith, size) in
    let laid : IsTableOf entries (segment_bytes s) = subst (IsTableOf entries) (sym bytes) (table_laid_out entries fits) in
    let checks : first_of (table_checks segments (segment_bytes s) (entry_count s.fields.length)) ≡ None =
    ap (λ (k : ℕ). first_of (table_checks segments (segment_bytes s) k)) entries' ∙ table_passes segments ts (segment_bytes s) there laid in
    let place : number - 1 ≡ length (load_headers list) = omega (arith, count-headers list) in
    let before : list_any is_table (take (number - 1) segments) ≡ false =
    ap (λ (k : ℕ). list_any is_table (take k segments)) place ∙ none_before 0x02 (load_headers list) (after_headers list table) segments stand.headers kinds in
    let sized : not (eqb s.fields.length (12 + 14 * entry_count s.fields.length)) ≡ false = ap not (eq-eqb s.fields.length (12 + 14 * entry_count s.fields.length) (size ∙ ap (λ (k : ℕ). 12 + 14 * k) (sym entries'))) in
    let rest = table_checks segments (segment_bytes s) (entry_count s.fields.length) in
    let four : Bool × ℕ = (not (eqb s.fields.length (12 + 14 * entry_count s.fields.length)), s.fields.length) in
    let three : Bool × ℕ = (ltb 0 (length (patches_of s)), 0) in
    let two : Bool × ℕ = (is_dynamic s.fields.kind || is_skipped s.fields.kind, 0) in
    let flaw : first_of ((list_any is_table (take (number - 1) segments), 0) ∷ two ∷ three ∷ four ∷ rest) ≡ None =
    pass (list_any is_table (take (number - 1) segments)) 0 (two ∷ three ∷ four ∷ rest) before
    (pass two.0 two.1 (three ∷ four ∷ rest) (ap (λ (k : ℕ). is_dynamic k || is_skipped k) kind)
    (pass three.0 three.1 (four ∷ rest) (ap (λ (k : ℕ). ltb 0 k) no_list)
    (pass four.0 four.1 rest sized checks))) in
    record {
      first = load_segment image segments s is named (front_passes s.fields name (ap (λ (k : ℕ). eqb (form_of k) 0x08) kind));
      shape = shape_passes image s number part is own;
      target = no_target_fault segments number s (records_written image segments s is named) (has_all (λ (p : Patch). patch_refusal segments s p ≡ None) (patch_list s) (λ p h. absurd (no_patch p h)));
      paths = ap (λ (k : ℕ). cond (eqb (form_of k) 0x04) (option_map (λ (at : ℕ). table_answer at) (pathnames_flaw segments number s)) None) kind;
      table' = no_answer (eqb (form_of s.fields.kind) 0x02) (first_of ((list_any is_table (take (number - 1) segments), 0) ∷ two ∷ three ∷ four ∷ rest)) flaw;
    }
  where
    table_answer : ℕ → Fault
    table_answer at = (BadTable, at)

    no_answer : (b : Bool) (o : Option ℕ) → o ≡ None → cond b (elim o as (λ x. Option Fault) [ None ↦ None | Some at ↦ Some (BadTable, at) ]) None ≡ None
    no_answer true None e = refl
    no_answer false o e = refl
    no_answer true (Some at) e = absurd cc
