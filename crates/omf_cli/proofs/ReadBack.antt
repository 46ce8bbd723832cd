-- A file that the linker wrote, as a loader reads it: where the entries of its table lead, and the paths of its rows.
use Rattle.std.proofs.Common.{◌≡◌, ◌⊎◌, inl, inr, ℕ, zero, suc, ◌+◌, ◌-◌, ◌≤◌, Bool, false, cond, eqb, List, [], ◌∷◌, ◌++◌, length, map, Option, Some, None, refl, sym, ap, subst, ◌∙◌, arith}
use Rattle.std.specs.Prelude.{slice_get, option_map}
use Rattle.std.specs.List.{AllByRecursion}
use Rattle.std.proofs.lemmas.List.{length-map}
use Rattle.omf_format.specs.Header.{HeaderFields, form_of}
use Rattle.omf_format.specs.File.{Segment, segment_at}
use Rattle.load_meaning.specs.declared.table.Target.{Target}
use Rattle.load_meaning.specs.declared.table.Entry.{Entry}
use Rattle.load_meaning.specs.Cells.{segment_bytes}
use Rattle.load_meaning.specs.Pathnames.{IsPath, most_paths, rows_text, paths_text, paths_in, paths_of}
use Rattle.load_meaning.specs.Table.{FitsEntry, IsTableOf, IsEntryAt, entry_start, file_entry, table_bytes}
use Rattle.load_meaning.specs.LoadTable.{table_from, table_of, entry_count, target_at, targets_from, targets_of}
use Rattle.load_meaning.specs.WrittenFile.{Image, table_fields, table_image, pathnames_fields, pathnames_image}
use Rattle.load_meaning.specs.laws.TableLaws.{table_laid_out}
use Rattle.load_meaning.specs.laws.WrittenTableLaws.{length-table_bytes}
use Rattle.load_meaning.specs.laws.PathTextLaws.{paths_written}
use Rattle.link_meaning.specs.First.{IsIn}
use Rattle.link_meaning.specs.Member.{Member, RuntimeFile, setting_in}
use Rattle.link_meaning.specs.Layout.{load_names, load_fields, load_headers}
use Rattle.link_meaning.specs.LinkValues.{EquateAnswer}
use Rattle.link_meaning.specs.Fitting.{load_header, length_of}
use Rattle.link_meaning.specs.LinkedCells.{table_number, targets}
use Rattle.link_meaning.specs.LinkFaults.{LinkInput, HasBytes}
use Rattle.link_meaning.specs.laws.Steps.{is_too_long}
use Rattle.link_meaning.specs.LinkWritten.{load_images, table_images, path_images, images}
use Rattle.link_meaning.specs.EmitFaults.{IsLinkable}
use Rattle.link_meaning.specs.LinkLoadable.{IsCalled}
use Rattle.link_meaning.specs.laws.ReadMembers.{members_read, read_kind}
use Rattle.link_meaning.specs.laws.LinkWrittenLaws.{few_loads, short_loads, short_length}
use Rattle.link_meaning.specs.laws.LoadSegmentLaws.{PlainKind, load_kind}
use Rattle.link_meaning.specs.laws.TablePasses.{all_at}
use Rattle.link_meaning.specs.laws.SettingLaws.{has_paths}
use Rattle.link_meaning.specs.laws.FarLaws.{far_fits}
use Rattle.link_meaning.specs.laws.WrittenSegments.{IsWritten, AreWrittenAs, length_written, bytes_written, bytes_whole}

-- ---- a table

same_target : (a b : Target) → a.file ≡ b.file → a.segment ≡ b.segment → a.offset ≡ b.offset → a ≡ b
same_target a b e f g =
    ap (λ (n : ℕ). record a { file = n }) e ∙ ap (λ (n : ℕ). record a { file = b.file; segment = n }) f ∙ ap (λ (n : ℕ). record a { file = b.file; segment = b.segment; offset = n }) g

-- the entry of a target leads there
leads : (t : Target) (k : ℕ) (bytes : List ℕ) → IsEntryAt (file_entry t) (entry_start k) bytes → target_at bytes k ≡ t
unfolding target_at
leads t k bytes is = same_target _ t is.file is.segment is.offset

all_lead : (bytes : List ℕ) (k : ℕ) (ts : List Target) → ((i : ℕ) (t : Target) → slice_get ts i ≡ Some t → target_at bytes (k + i) ≡ t) → targets_from bytes k (length ts) ≡ ts
all_lead bytes k [] each = refl
all_lead bytes k (t ∷ ts) each =
    let none : k + 0 ≡ k = omega arith in
    let here : target_at bytes k ≡ t = subst (λ (n : ℕ). target_at bytes n ≡ t) none (each 0 t refl) in
    let rest : targets_from bytes (k + 1) (length ts) ≡ ts =
    all_lead bytes (k + 1) ts (λ i u at. let next : k + suc i ≡ k + 1 + i = omega arith in subst (λ (n : ℕ). target_at bytes n ≡ u) next (each (suc i) u at)) in
    ap (λ (u : Target). u ∷ targets_from bytes (k + 1) (length ts)) here ∙ ap (λ (l : List Target). t ∷ l) rest

mapped : (ts : List Target) (i : ℕ) (t : Target) → slice_get ts i ≡ Some t → slice_get (map file_entry ts) i ≡ Some (file_entry t)
mapped [] i t at = absurd cc
mapped (u ∷ ts) zero t at = ap (option_map file_entry) at
mapped (u ∷ ts) (suc i) t at = mapped ts i t at

-- a segment that was written as a table
table_read : (number : ℕ) (entries : List Entry) (s : Segment) → IsWritten (table_image number entries) s
    → (s.fields.kind ≡ 0x0002) × (segment_bytes s ≡ table_bytes entries) × (s.fields.length ≡ length (table_bytes entries))
unfolding table_image table_fields
table_read number entries s is =
    (ap (λ (f : HeaderFields). f.kind) is.read.fields, bytes_written (table_image number entries) s refl is, length_written (table_image number entries) s is)

-- is read with the targets that were written
targets_read : (number : ℕ) (ts : List Target) (s : Segment) → ((k : ℕ) (entry : Entry) → slice_get (map file_entry ts) k ≡ Some entry → FitsEntry entry)
    → IsWritten (table_image number (map file_entry ts)) s → targets_of s ≡ ts
unfolding targets_of
targets_read number ts s fits is =
    let read = table_read number (map file_entry ts) s is in
    let laid : IsTableOf (map file_entry ts) (segment_bytes s) = subst (IsTableOf (map file_entry ts)) (sym read.1) (table_laid_out (map file_entry ts) fits) in
    let count : entry_count s.fields.length ≡ length ts = omega (arith, read.2, length-table_bytes (map file_entry ts), length-map ts (λ (t : Target). file_entry t)) in
    ap (targets_from (segment_bytes s) 0) count ∙ all_lead (segment_bytes s) 0 ts (λ i t at. ap (target_at (segment_bytes s)) (omega arith) ∙ leads t i (segment_bytes s) (laid.each i (file_entry t) (mapped ts i t at)))

-- ---- rows

-- a segment that was written as the pathnames
paths_read : (number : ℕ) (paths : List (List ℕ)) (s : Segment) → IsWritten (pathnames_image number paths) s → (s.fields.kind ≡ 0x0004) × (segment_bytes s ≡ rows_text 2 paths)
unfolding pathnames_image pathnames_fields table_fields paths_text
paths_read number paths s is = (ap (λ (f : HeaderFields). f.kind) is.read.fields, bytes_whole (pathnames_image number paths) s refl is)

-- the paths that are read are those that were written
rows_read : (more number : ℕ) (runtimes : List RuntimeFile) (segments : List Segment) → more ≡ most_paths → AllByRecursion IsPath (map (λ r. r.path) runtimes) → length runtimes ≤ more
    → AreWrittenAs (path_images number runtimes) segments → (paths_of segments ≡ map (λ r. r.path) runtimes) × ((n : ℕ) → table_from n segments ≡ None)
unfolding paths_of
rows_read more number [] [] most all few written = (refl, λ n. refl)
rows_read more number [] (s ∷ segments) most all few written = absurd written
rows_read more number (r ∷ runtimes) [] most all few written = absurd written
rows_read more number (r ∷ runtimes) (s ∷ u ∷ segments) most all few written = absurd written.1
rows_read more number (r ∷ runtimes) (s ∷ []) most all few written =
    let paths = map (λ (one : RuntimeFile). one.path) (r ∷ runtimes) in
    let count : length paths ≡ length (r ∷ runtimes) = length-map (r ∷ runtimes) (λ (one : RuntimeFile). one.path) in
    let read = paths_read number paths s written.0 in
    let is = paths_written more paths all (omega (arith, count, few)) (omega arith) (omega (arith, count, few, most)) in (
      ap (λ (k : ℕ). cond (eqb (form_of k) 0x04) (paths_in most_paths (segment_bytes s)) []) read.0
          ∙ ap (λ (n : ℕ). paths_in n (segment_bytes s)) (sym most) ∙ ap (paths_in more) read.1 ∙ is.1,
      λ n. ap (λ (k : ℕ). cond (eqb (form_of k) 0x02) (Some n) None) read.0,
    )

-- ---- the whole file

-- there is no table; or it is after `count` segments, and its entries lead to these targets
abbrev pub HasTable : ℕ → List Target → List Segment → Type 0
HasTable count ts segments = (table_of segments ≡ None)
    ⊎ ((s : Segment) × (segment_at segments (suc count) ≡ Some s) × (table_of segments ≡ Some (suc count)) × (targets_of s ≡ ts))

module _ (given : LinkInput) (list : List Member) (table : List EquateAnswer) (bytes : HasBytes given) (is : IsLinkable given list table) where
  -- LENGTH of a load segment
  length_fits : (number : ℕ) → length_of (load_headers list) number ≤ 0xFFFFFF
  length_fits number = by_header (load_header (load_headers list) number) refl
    where
      by_header : (o : Option HeaderFields) → load_header (load_headers list) number ≡ o → elim o as (λ x. ℕ) [ None ↦ 0 | Some f ↦ f.length ] ≤ 0xFFFFFF
      by_header None e = omega arith
      by_header (Some f) e = short_length f (all_at (λ g. is_too_long g ≡ false) (load_headers list) (number - 1) f (short_loads given list is.resolved) e)

  -- the entries of what is called
  entry_fits : (t : Target) → IsCalled list t → FitsEntry (file_entry t)
  entry_fits t (form, inl here) = record {
    user = omega arith;
    file = omega (arith, here.file');
    segment = omega (arith, here.load, few_loads given list is.resolved);
    offset = omega (arith, here.inside, length_fits t.segment);
    loaded = tt;
  }
  entry_fits t (form, inr there) =
      let far = far_fits given list bytes is.resolved.program t.file t.segment t.offset there.inside in
      record { user = omega arith; file = omega (arith, there.file'.1, (has_paths given list bytes is.resolved.program).few); segment = far.0; offset = far.1; loaded = tt }

  entries_fit : (ts : List Target) → AllByRecursion (IsCalled list) ts → (k : ℕ) (entry : Entry) → slice_get (map file_entry ts) k ≡ Some entry → FitsEntry entry
  entries_fit [] called k entry at = absurd cc
  entries_fit (t ∷ ts) called zero entry at = subst FitsEntry (same_entry (file_entry t) entry at) (entry_fits t called.0)
    where
      same_entry : (a b : Entry) → Some a ≡ Some b → a ≡ b
      same_entry a b e = cc
  entries_fit (t ∷ ts) called (suc k) entry at = entries_fit ts called.1 k entry at

  -- ---- segments

  -- what follows `count` load segments
  record After (segments : List Segment) (count : ℕ) (rest : List Image) : Type 0 where
    following : List Segment
    paths : paths_of segments ≡ paths_of following
    table' : (number : ℕ) → table_from number segments ≡ table_from (number + count) following
    at : (k : ℕ) → slice_get segments (count + k) ≡ slice_get following k
    written : AreWrittenAs rest following

  after_loads : (number : ℕ) (xs : List (List ℕ)) (rest : List Image) (segments : List Segment) → ((n : ℕ) (x : List ℕ) → IsIn xs x → PlainKind (load_fields list n x).kind)
      → AreWrittenAs (load_images list table number xs ++ rest) segments → After segments (length xs) rest
  unfolding paths_of
  after_loads number [] rest segments plain written =
      record { following = segments; paths = refl; table' = λ n. ap (λ (m : ℕ). table_from m segments) (omega arith); at = λ k. ap (slice_get segments) (omega arith); written = written }
  after_loads number (x ∷ xs) rest [] plain written = absurd written
  after_loads number (x ∷ xs) rest (s ∷ segments) plain written =
      let more = after_loads (number + 1) xs rest segments (λ n y is'. plain n y (inr is')) written.1 in
      let kind : s.fields.kind ≡ (load_fields list number x).kind = ap (λ (f : HeaderFields). f.kind) written.0.read.fields in
      let not_one = plain number x (inl refl) in
      record {
        following = more.following;
        paths = ap (λ (k : ℕ). cond (eqb (form_of k) 0x04) (paths_in most_paths (segment_bytes s)) (paths_of segments)) kind
            ∙ ap (λ (b : Bool). cond b (paths_in most_paths (segment_bytes s)) (paths_of segments)) not_one.1 ∙ more.paths;
        table' = λ n.
            ap (λ (k : ℕ). cond (eqb (form_of k) 0x02) (Some n) (table_from (n + 1) segments)) kind
            ∙ ap (λ (b : Bool). cond b (Some n) (table_from (n + 1) segments)) not_one.0 ∙ more.table' (n + 1)
            ∙ (let place : n + 1 + length xs ≡ n + suc (length xs) = omega arith in ap (λ (m : ℕ). table_from m more.following) place);
        at = λ k. let place : suc (length xs) + k ≡ suc (length xs + k) = omega arith in ap (slice_get (s ∷ segments)) place ∙ more.at k;
        written = more.written;
      }

  -- there is no table, where it has no entries; or it is the first of these segments, of which the first has this number
  abbrev BeginsWithTable : ℕ → List Target → List Segment → Type 0
  BeginsWithTable number ts segments = (table_from number segments ≡ None)
      ⊎ ((s : Segment) × (slice_get segments 0 ≡ Some s) × (table_from number segments ≡ Some number) × (targets_of s ≡ ts))

  after_table : (number last : ℕ) (ts : List Target) (segments : List Segment) → AllByRecursion (IsCalled list) ts
      → AreWrittenAs (table_images number ts ++ path_images last (setting_in list).runtimes) segments
      → (paths_of segments ≡ map (λ r. r.path) (setting_in list).runtimes) × ((n : ℕ) → BeginsWithTable n ts segments)
  unfolding paths_of
  after_table number last [] segments called written =
      let paths = has_paths given list bytes is.resolved.program in
      let read = rows_read most_paths last (setting_in list).runtimes segments refl paths.paths paths.few written in
      (read.0, λ n. inl (read.1 n))
  after_table number last (t ∷ ts) [] called written = absurd written
  after_table number last (t ∷ ts) (s ∷ segments) called written =
      let paths = has_paths given list bytes is.resolved.program in
      let rows = rows_read most_paths last (setting_in list).runtimes segments refl paths.paths paths.few written.1 in
      let kind = (table_read number (map file_entry (t ∷ ts)) s written.0).0 in (
        ap (λ (k : ℕ). cond (eqb (form_of k) 0x04) (paths_in most_paths (segment_bytes s)) (paths_of segments)) kind ∙ rows.0,
        λ n. inr (
          s,
          refl,
          ap (λ (k : ℕ). cond (eqb (form_of k) 0x02) (Some n) (table_from (n + 1) segments)) kind,
          targets_read number (t ∷ ts) s (entries_fit (t ∷ ts) called) written.0,
        ),
      )

  -- the paths of the rows are those of the run-time library files, and the table's entries lead to what the linker calls
  pub record IsReadBack (segments : List Segment) : Type 0 where
    pub paths : paths_of segments ≡ map (λ r. r.path) (setting_in list).runtimes
    pub table' : HasTable (length (load_names list)) (targets list table) segments

  pub read_back : (segments : List Segment) → AllByRecursion (IsCalled list) (targets list table) → AreWrittenAs (images list table) segments → IsReadBack segments
  unfolding images
  read_back segments called written =
      let tables = table_images (table_number list) (targets list table) in
      let last = table_number list + length tables in
      let kinds = λ (m : Member) (in' : IsIn list m). read_kind m.segment (members_read given list m bytes is.resolved.program in') in
      let loads = after_loads 1 (load_names list) (tables ++ path_images last (setting_in list).runtimes) segments (λ n x in'. load_kind list n x kinds in') written in
      let rest = after_table (table_number list) last (targets list table) loads.following called loads.written in
      record { paths = loads.paths ∙ rest.0; table' = by_table loads (rest.1 (1 + length (load_names list))) }
    where
      by_table : {more : List Image} (loads : After segments (length (load_names list)) more) → BeginsWithTable (1 + length (load_names list)) (targets list table) loads.following
          → HasTable (length (load_names list)) (targets list table) segments
      by_table loads (inl none) = inl (loads.table' 1 ∙ none)
      by_table loads (inr (s, there, number, leads')) =
          let place : length (load_names list) + 0 ≡ length (load_names list) = omega arith in
          let next : 1 + length (load_names list) ≡ suc (length (load_names list)) = omega arith in
          inr (s, ap (slice_get segments) (sym place) ∙ loads.at 0 ∙ there, loads.table' 1 ∙ number ∙ ap (λ (n : ℕ). Some n) next, leads')
