-- The names of a linked file are read back.
use Rattle.std.proofs.Common.{◌≡◌, ℕ, ◌+◌, Bool, true, false, cond, eqb, List, [], ◌∷◌, ◌++◌, length, map, Result, Ok, Err, refl, sym, ap, subst, ◌∙◌, arith, inl, inr}
use Rattle.std.specs.Prelude.{◌⊎◌, ◌≤◌, ◌&&◌, nat_lt, None}
use Rattle.std.specs.List.{flat_map, AllByRecursion}
use Rattle.std.proofs.lemmas.Bool.{ne_eqb}
use Rattle.std.proofs.lemmas.List.{append-nil, length-map}
use Rattle.std.proofs.lemmas.List.Concat.{flat_map-cons, flat_map-append}
use Rattle.omf_format.specs.Header.{HeaderFields, form_of}
use Rattle.omf_format.specs.Record.{Record, Entry}
use Rattle.omf_format.specs.Value.{is_unshifted}
use Rattle.omf_format.specs.declared.value.Value.{Value}
use Rattle.omf_format.specs.declared.value.Value.TheVariants.{Fixed, At}
use Rattle.omf_format.specs.declared.value.ValueFault.{ValueFault}
use Rattle.omf_format.specs.File.{Segment, IsFile}
use Rattle.omf_format.specs.laws.FileLaws.{file_same}
use Rattle.object_meaning.specs.Defines.{Scope, ForSegment, ForUnit, ForAll}
use Rattle.load_meaning.specs.declared.table.Target.{Target}
use Rattle.load_meaning.specs.Cells.{segment_bytes}
use Rattle.load_meaning.specs.Exports.{Export, exports_of_record, exports_of}
use Rattle.load_meaning.specs.Pathnames.{IsPath, most_paths, rows_text, paths_text, paths_in, paths_of}
use Rattle.load_meaning.specs.Table.{file_entry}
use Rattle.load_meaning.specs.WrittenFile.{Image, table_fields, table_image, pathnames_fields, pathnames_image}
use Rattle.load_meaning.specs.laws.PathTextLaws.{paths_written}
use Rattle.link_meaning.specs.First.{IsIn}
use Rattle.link_meaning.specs.declared.form.LinkForm.{LinkForm}
use Rattle.link_meaning.specs.declared.form.LinkForm.TheVariants.{Program, Runtime as LibraryForm}
use Rattle.link_meaning.specs.declared.fault.LinkCause.TheVariants.{Empty}
use Rattle.link_meaning.specs.Member.{Member, RuntimeFile, LinkSetting, objects, setting_in, form_in}
use Rattle.link_meaning.specs.Search.{FoundDefinition, entries}
use Rattle.link_meaning.specs.Layout.{load_names, load_fields, load_headers}
use Rattle.link_meaning.specs.LinkValues.{EquateAnswer, found_value}
use Rattle.link_meaning.specs.Fitting.{length_of}
use Rattle.link_meaning.specs.LinkedCells.{table_number, targets}
use Rattle.link_meaning.specs.LinkFaults as phases
use Rattle.link_meaning.specs.LinkFaults.{LinkInput, HasBytes, AreRuntimes, IsProgram, no_spot, Reading, Objects, Layout}
use Rattle.link_meaning.specs.LinkWritten.{export_at, exports, load_images, table_images, path_images, images, written_file}
use Rattle.link_meaning.specs.EmitFaults.{IsLinkedTo}
use Rattle.link_meaning.specs.laws.Steps.{export_of, exports_for}
use Rattle.link_meaning.specs.laws.EmitFaultLaws.{linkable_made, linkable_short, linkable_stands_for}
use Rattle.link_meaning.specs.laws.LinkWrittenLaws.{are_images}
use Rattle.link_meaning.specs.laws.LoadSegmentLaws.{PlainKind, load_kind}
use Rattle.link_meaning.specs.laws.PlaceFits.{name_there}
use Rattle.link_meaning.specs.laws.ReadMembers.{members_read, read_kind}
use Rattle.link_meaning.specs.laws.SettingLaws.{has_paths, setting_of}
use Rattle.link_meaning.specs.laws.ValueFits.{all_sound}
use Rattle.link_meaning.specs.laws.WrittenSegments.{IsWritten, AreWrittenAs, are_written_as, bytes_whole}
use Rattle.link_laws.specs.ReadBack.{export_as, public_name, public_names, ExportsAreReadBack, PathsAreReadBack}
use Rattle.link_laws.specs.laws.WrittenNames.{Exports, images_export, exports_are_read, nothing_exported}

-- ---- what the list exports

as_record : (headers : List HeaderFields) (name : List ℕ) (v : Result Value ValueFault) → Exports 1 (export_at headers name v) ≡ export_as headers name v
as_record headers name (Err fault) = refl
as_record headers name (Ok (Fixed n)) = refl
as_record headers name (Ok (At file segment offset shift)) = by_test (is_unshifted shift && nat_lt offset (length_of headers segment))
  where
    by_test : (b : Bool) → Exports 1 (cond b (Entry segment offset name ∷ []) []) ≡ cond b (record { name = name; segment = segment; offset = offset; holder = 1 } ∷ []) []
    by_test true = refl
    by_test false = refl

module _ (list : List Member) (table : List EquateAnswer) where
  one_export : (f : FoundDefinition) → Exports 1 (export_of list table f) ≡ public_name list table f
  one_export f = by_scope f.definition.scope
    where
      by_scope : (scope : Scope) → Exports 1 (elim scope as (λ s. List Record) [
        | ForSegment ↦ []
        | ForUnit ↦ []
        | ForAll ↦ export_at (load_headers list) f.definition.name (found_value list table f)
      ]) ≡ elim scope as (λ s. List Export) [
        | ForSegment ↦ []
        | ForUnit ↦ []
        | ForAll ↦ export_as (load_headers list) f.definition.name (found_value list table f)
      ]
      by_scope ForSegment = refl
      by_scope ForUnit = refl
      by_scope ForAll = as_record (load_headers list) f.definition.name (found_value list table f)

  all_exports : (fs : List FoundDefinition) → Exports 1 (flat_map (export_of list table) fs) ≡ flat_map (public_name list table) fs
  all_exports [] = refl
  all_exports (f ∷ fs) =
      ap (Exports 1) (flat_map-cons (export_of list table) f fs)
      ∙ flat_map-append (exports_of_record 1) (export_of list table f) (flat_map (export_of list table) fs)
      ∙ ap (λ (l : List Export). l ++ Exports 1 (flat_map (export_of list table) fs)) (one_export f)
      ∙ ap (λ (l : List Export). public_name list table f ++ l) (all_exports fs)
      ∙ sym (flat_map-cons (public_name list table) f fs)

  list_exports : Exports 1 (exports list table) ≡ public_names list table
  unfolding exports
  list_exports = all_exports (entries list)

  -- ---- the images

  abbrev Bare : List Image → Type 0
  Bare all = AllByRecursion (λ (image : Image). image.exports ≡ []) all

  both_bare : (xs ys : List Image) → Bare xs → Bare ys → Bare (xs ++ ys)
  both_bare [] ys first second = second
  both_bare (x ∷ xs) ys first second = (first.0, both_bare xs ys first.1 second)

  tables_bare : (number : ℕ) (ts : List Target) → Bare (table_images number ts)
  unfolding table_image
  tables_bare number [] = tt
  tables_bare number (t ∷ ts) = (refl, tt)

  paths_bare : (number : ℕ) (runtimes : List RuntimeFile) → Bare (path_images number runtimes)
  unfolding pathnames_image
  paths_bare number [] = tt
  paths_bare number (r ∷ runtimes) = (refl, tt)

  program_bare : (form : LinkForm) (number : ℕ) → form ≡ Program → exports_for form number (exports list table) ≡ []
  program_bare Program number is = refl
  program_bare LibraryForm number is = absurd cc

  later_bare : (form : LinkForm) (number : ℕ) → 2 ≤ number → exports_for form number (exports list table) ≡ []
  later_bare Program number later = refl
  later_bare LibraryForm number later = ap (λ (b : Bool). cond b (exports list table) []) (ne_eqb number 1 (λ e. absurd (omega (arith, e, later))))

  loads_bare : (number : ℕ) (names : List (List ℕ)) → (form_in list ≡ Program) ⊎ (2 ≤ number) → Bare (load_images list table number names)
  loads_bare number [] is = tt
  loads_bare number (x ∷ xs) (inl program) = (program_bare (form_in list) number program, loads_bare (number + 1) xs (inl program))
  loads_bare number (x ∷ xs) (inr later) = (later_bare (form_in list) number later, loads_bare (number + 1) xs (inr (omega arith)))

  module _ (rest : List Image) (bare : Bare rest) where
    of_program : form_in list ≡ Program → images_export 1 (load_images list table 1 (load_names list) ++ rest) ≡ []
    of_program program = nothing_exported 1 _ (both_bare (load_images list table 1 (load_names list)) rest (loads_bare 1 (load_names list) (inl program)) bare)

    of_library : form_in list ≡ LibraryForm → (names : List (List ℕ)) → (names ≡ [] → ⊥) → images_export 1 (load_images list table 1 names ++ rest) ≡ public_names list table
    of_library library [] some = absurd (some refl)
    of_library library (x ∷ xs) some =
        ap (λ (form : LinkForm). Exports 1 (exports_for form 1 (exports list table)) ++ images_export 2 (load_images list table 2 xs ++ rest)) library
        ∙ ap (λ (l : List Export). Exports 1 (exports list table) ++ l) (nothing_exported 2 _ (both_bare (load_images list table 2 xs) rest (loads_bare 2 xs (inr (omega arith))) bare))
        ∙ append-nil (Exports 1 (exports list table)) ∙ list_exports

-- ---- the paths

-- the segment that was written as the pathnames
paths_read : (number : ℕ) (paths : List (List ℕ)) (s : Segment) → IsWritten (pathnames_image number paths) s → (s.fields.kind ≡ 0x0004) × (segment_bytes s ≡ rows_text 2 paths)
unfolding pathnames_image pathnames_fields table_fields paths_text
paths_read number paths s is = (ap (λ (f : HeaderFields). f.kind) is.read.fields, bytes_whole (pathnames_image number paths) s refl is)

table_kind : (number : ℕ) (ts : List Target) (s : Segment) → IsWritten (table_image number (map file_entry ts)) s → s.fields.kind ≡ 0x0002
unfolding table_image table_fields
table_kind number ts s is = ap (λ (f : HeaderFields). f.kind) is.read.fields

abbrev paths_if : Segment → List Segment → Bool → List (List ℕ)
paths_if s segments b = cond b (paths_in most_paths (segment_bytes s)) (paths_of segments)

-- a segment of another type has no rows
none_there : (s : Segment) (segments : List Segment) (kind : ℕ) → s.fields.kind ≡ kind → eqb (form_of kind) 0x04 ≡ false → paths_of (s ∷ segments) ≡ paths_of segments
unfolding paths_of
none_there s segments kind is other = ap (λ (k : ℕ). paths_if s segments (eqb (form_of k) 0x04)) is ∙ ap (paths_if s segments) other

rows_there : (more : ℕ) (paths : List (List ℕ)) (s : Segment) → more ≡ most_paths → s.fields.kind ≡ 0x0004 → segment_bytes s ≡ rows_text 2 paths → AllByRecursion IsPath paths → 1 ≤ length paths
    → length paths ≤ more → paths_of (s ∷ []) ≡ paths
unfolding paths_of
rows_there more paths s most kind bytes all some few =
    ap (λ (k : ℕ). paths_if s [] (eqb (form_of k) 0x04)) kind ∙ ap (λ (n : ℕ). paths_in n (segment_bytes s)) (sym most) ∙ ap (paths_in more) bytes
    ∙ (paths_written more paths all few some (omega (arith, few, most))).1

no_paths : paths_of [] ≡ []
unfolding paths_of
no_paths = refl

rows_read : (number : ℕ) (runtimes : List RuntimeFile) (segments : List Segment) → AllByRecursion IsPath (map (λ r. r.path) runtimes) → length runtimes ≤ most_paths
    → AreWrittenAs (path_images number runtimes) segments → paths_of segments ≡ map (λ r. r.path) runtimes
rows_read number [] [] all few written = no_paths
rows_read number [] (s ∷ segments) all few written = absurd written
rows_read number (r ∷ runtimes) [] all few written = absurd written
rows_read number (r ∷ runtimes) (s ∷ u ∷ segments) all few written = absurd written.1
rows_read number (r ∷ runtimes) (s ∷ []) all few written =
    let paths = map (λ (one : RuntimeFile). one.path) (r ∷ runtimes) in
    let count : length paths ≡ length (r ∷ runtimes) = length-map (r ∷ runtimes) (λ (one : RuntimeFile). one.path) in
    let read = paths_read number paths s written.0 in
    rows_there most_paths paths s refl read.0 read.1 all (omega arith) (omega (arith, count, few))

table_read : (number last : ℕ) (ts : List Target) (runtimes : List RuntimeFile) (segments : List Segment) → AllByRecursion IsPath (map (λ r. r.path) runtimes) → length runtimes ≤ most_paths
    → AreWrittenAs (table_images number ts ++ path_images last runtimes) segments → paths_of segments ≡ map (λ r. r.path) runtimes
table_read number last [] runtimes segments all few written = rows_read last runtimes segments all few written
table_read number last (t ∷ ts) runtimes [] all few written = absurd written
table_read number last (t ∷ ts) runtimes (s ∷ segments) all few written =
    none_there s segments 0x0002 (table_kind number (t ∷ ts) s written.0) refl ∙ rows_read last runtimes segments all few written.1

loads_read : (list : List Member) (table : List EquateAnswer) (number : ℕ) (xs : List (List ℕ)) (rest : List Image) (paths : List (List ℕ)) (segments : List Segment)
    → ((n : ℕ) (x : List ℕ) → IsIn xs x → PlainKind (load_fields list n x).kind) → ((following : List Segment) → AreWrittenAs rest following → paths_of following ≡ paths)
    → AreWrittenAs (load_images list table number xs ++ rest) segments → paths_of segments ≡ paths
loads_read list table number [] rest paths segments plain read written = read segments written
loads_read list table number (x ∷ xs) rest paths [] plain read written = absurd written
loads_read list table number (x ∷ xs) rest paths (s ∷ segments) plain read written =
    none_there s segments (load_fields list number x).kind (ap (λ (f : HeaderFields). f.kind) written.0.read.fields) (plain number x (inl refl)).1
    ∙ loads_read list table (number + 1) xs rest paths segments (λ n y is. plain n y (inr is)) read written.1

-- ---- the file

module _ (given : LinkInput) (output : List ℕ) (bytes : HasBytes given) (is : IsLinkedTo given output) (segments : List Segment) (file : IsFile segments output) where
  program : IsProgram given is.list
  program = is.linkable.resolved.program

  written : AreWrittenAs (images is.list is.table) segments
  unfolding written_file
  written =
      let made = linkable_stands_for given is.list is.table bytes is.linkable in
      let emitted = is.linkable.emitted in
      let same : made.0 ≡ segments = file_same made.0 segments output (subst (IsFile made.0) (sym is.is_written) made.1) file in
      let are = are_images given is.list is.table bytes is.linkable.resolved (all_sound given is.list is.table bytes is.linkable.resolved emitted.valued) (linkable_made is.list is.table emitted) (linkable_short is.list is.table emitted) in
      subst (AreWrittenAs (images is.list is.table)) same (are_written_as (images is.list is.table) made.0 made.1 are.1 made.2)

  objects_there : objects program.setting program.inputs ≡ [] → ⊥
  objects_there none = is.linkable.resolved.sound (Reading ∷ []) Objects (phases.Names ∷ Layout ∷ []) (record { cause = Empty; name = None; spot = no_spot }) refl
      (program.setting, program.inputs, program.is_setting, program.are_inputs, none, refl)

  list_some : is.list ≡ [] → ⊥
  list_some none = by_list (objects program.setting program.inputs) refl
    where
      by_list : (ms : List Member) → objects program.setting program.inputs ≡ ms → ⊥
      by_list [] e = objects_there e
      by_list (m ∷ ms) e =
          let clash : m ∷ (ms ++ program.linked.added) ≡ [] = ap (λ (l : List Member). l ++ program.linked.added) (sym e) ∙ sym program.linked.parts ∙ none in
          cc

  names_some : load_names is.list ≡ [] → ⊥
  names_some none = by_list is.list refl
    where
      by_list : (ms : List Member) → is.list ≡ ms → ⊥
      by_list [] e = list_some e
      by_list (m ∷ ms) e = subst (λ (l : List (List ℕ)). IsIn l m.segment.fields.load_name) none (name_there is.list m (subst (λ (l : List Member). IsIn l m) (sym e) (inl refl)))

  setting : setting_in is.list ≡ program.setting
  setting = setting_of given is.list program list_some

  form : form_in is.list ≡ given.form
  form = ap (λ (s : LinkSetting). s.form) setting ∙ program.is_setting.form'

  abbrev rest : List Image
  rest = table_images (table_number is.list) (targets is.list is.table)
      ++ path_images (table_number is.list + length (table_images (table_number is.list) (targets is.list is.table))) (setting_in is.list).runtimes

  given_paths : (files : List (List ℕ × List ℕ)) (runtimes : List RuntimeFile) → AreRuntimes files runtimes → map (λ r. r.path) runtimes ≡ map (λ (f : List ℕ × List ℕ). f.0) files
  given_paths [] [] are = refl
  given_paths [] (r ∷ runtimes) are = absurd are
  given_paths (f ∷ files) [] are = absurd are
  given_paths (f ∷ files) (r ∷ runtimes) are = ap (λ (p : List ℕ). p ∷ map (λ (one : RuntimeFile). one.path) runtimes) are.0 ∙ ap (λ (l : List (List ℕ)). f.0 ∷ l) (given_paths files runtimes are.2)

  pub paths_back : paths_of segments ≡ map (λ (f : List ℕ × List ℕ). f.0) given.runtimes
  unfolding images
  paths_back =
      let paths = has_paths given is.list bytes program in
      let kinds = λ (m : Member) (there : IsIn is.list m). read_kind m.segment (members_read given is.list m bytes program there) in
      let last = table_number is.list + length (table_images (table_number is.list) (targets is.list is.table)) in
      loads_read is.list is.table 1 (load_names is.list) rest (map (λ r. r.path) (setting_in is.list).runtimes) segments (λ n x there. load_kind is.list n x kinds there)
      (λ following more. table_read (table_number is.list) last (targets is.list is.table) (setting_in is.list).runtimes following paths.paths paths.few more) written
      ∙ ap (λ (s : LinkSetting). map (λ (r : RuntimeFile). r.path) s.runtimes) setting ∙ given_paths given.runtimes program.setting.runtimes program.is_setting.runtimes'

  pub exports_back : exports_of segments ≡ elim given.form as (λ f. List Export) [ Program ↦ [] | LibraryForm ↦ public_names is.list is.table ]
  unfolding exports_of images
  exports_back = exports_are_read 1 (images is.list is.table) segments written ∙ by_form given.form form
    where
      bare : Bare is.list is.table rest
      bare = both_bare is.list is.table (table_images (table_number is.list) (targets is.list is.table)) _
          (tables_bare is.list is.table (table_number is.list) (targets is.list is.table)) (paths_bare is.list is.table _ (setting_in is.list).runtimes)

      by_form : (f : LinkForm) → form_in is.list ≡ f → images_export 1 (load_images is.list is.table 1 (load_names is.list) ++ rest) ≡ elim f as (λ f. List Export) [ Program ↦ [] | LibraryForm ↦ public_names is.list is.table ]
      by_form Program e = of_program is.list is.table rest bare e
      by_form LibraryForm e = of_library is.list is.table rest bare e (load_names is.list) names_some

pub exports_are_read_back : ExportsAreReadBack
exports_are_read_back given output bytes is segments file = exports_back given output bytes is segments file

pub paths_are_read_back : PathsAreReadBack
paths_are_read_back given output bytes is segments file = paths_back given output bytes is segments file
