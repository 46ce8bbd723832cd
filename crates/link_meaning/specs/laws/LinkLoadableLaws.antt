-- The written file as it is read: it represents the linked cells, and is loaded where nothing names a skipped load segment.
use Rattle.std.proofs.Common.{drop, Result, Ok, Err, ◌≡◌, ℕ, suc, ◌+◌, ◌-◌, ◌<◌, ◌≤◌, Bool, true, false, not, eqb, ltb, List, [], ◌∷◌, ◌++◌, length, map, take, replicate, Option, Some, None, refl, sym, ap, subst, ◌∙◌, append_assoc, arith, inl, inr}
use Rattle.std.specs.Prelude.{◌⊎◌, ◌&&◌, ◌||◌, cond, option_map}
use Rattle.std.specs.List.{AllByRecursion, list_any, flat_map}
use Rattle.std.proofs.lemmas.List.Concat.{flat_map-cons}
use Rattle.byteorder.specs.Endian.{little_bytes}
use Rattle.byteorder.specs.Numbers.{length-bytes_low_first}
use Rattle.std.specs.Option.{option_or, option_map_or}
use Rattle.std.specs.Str.{bytes_eq}
use Rattle.std.proofs.lemmas.Bool.{eq-eqb, lt-ltb, ltb-true, and_parts, and_from}
use Rattle.std.proofs.lemmas.List.{length-append, length-map, append-nil}
use Rattle.std.proofs.lemmas.Slice.Eq.{bytes_eq-Decides}
use Rattle.omf_format.specs.Header.{HeaderFields, form_of, first_of, is_dynamic, is_skipped}
use Rattle.omf_format.specs.Record.{Record, Entry as Exported}
use Rattle.omf_format.specs.Value.{is_unshifted}
use Rattle.omf_format.specs.declared.value.Value.{Value}
use Rattle.omf_format.specs.declared.value.Value.TheVariants.{Fixed, At}
use Rattle.omf_format.specs.declared.value.ValueFault.{ValueFault}
use Rattle.load_meaning.specs.Pathnames.{IsPath, pathnames_from, has_pathnames, most_paths, paths_in, paths_of, paths_text, rows_text, rows_flaw, is_one_long}
use Rattle.load_meaning.specs.laws.PathTextLaws.{paths_written}
use Rattle.object_meaning.specs.laws.RunLaws.{placed}
use Rattle.omf_format.specs.File.{Segment}
use Rattle.load_meaning.specs.declared.load.LoadCause.TheVariants.{NotLoadFile, NoSuchTarget, BadTable}
use Rattle.load_meaning.specs.declared.load.LoadFault.{LoadFault}
use Rattle.load_meaning.specs.declared.table.Target.{Target}
use Rattle.load_meaning.specs.Cells.{Cell, Byte, Part, Patch, segment_bytes}
use Rattle.load_meaning.specs.LoadTable.{is_place}
use Rattle.load_meaning.specs.Loadable.{Fault, IsLoadSegment, first_in, shape_fault, patch_refusal, target_fault, table_flaw, table_fault, later_fault, IsLoadable, IsTarget, pathnames_fault, pathnames_flaw, entry_refusal}
use Rattle.load_meaning.specs.laws.Steps.{is_express, in_segment}
use Rattle.load_meaning.specs.laws.LoadableLaws.{loadable_sound}
use Rattle.load_meaning.specs.WrittenBody.{data_records}
use Rattle.load_meaning.specs.WrittenFile.{Image, table_fields, pathnames_image, pathnames_fields}
use Rattle.link_meaning.specs.declared.form.LinkForm.{LinkForm}
use Rattle.link_meaning.specs.declared.form.LinkForm.TheVariants.{Program, Runtime as LibraryForm}
use Rattle.object_meaning.specs.Defines.{Scope, ForSegment, ForUnit, ForAll}
use Rattle.link_meaning.specs.laws.SettingLaws.{has_paths, of_setting, setting_of}
use Rattle.load_meaning.specs.Runtime.{kind_fault, runtime_fault}
use Rattle.link_meaning.specs.laws.OutsideLaws.{outside_named}
use Rattle.link_meaning.specs.Search.{FoundDefinition, entries, outside}
use Rattle.link_meaning.specs.First.{IsIn}
use Rattle.link_meaning.specs.Member.{Member, objects, setting_in, RuntimeFile, LinkSetting, form_in}
use Rattle.object_meaning.specs.Sizes.{size_at, located_from, records_with_offsets, place_after, body_size}
use Rattle.link_meaning.specs.laws.ReadMembers.{IsRead, members_read, read_header, read_size, read_some, read_kind}
use Rattle.link_meaning.specs.laws.PlaceFits.{IsPlaceIn, place_fits, name_there, following-le}
use Rattle.link_meaning.specs.laws.PlaceValues.{expression_fits, entry_fits}
use Rattle.link_meaning.specs.laws.ValueFits.{all_sound}
use Rattle.link_meaning.specs.laws.MadeLaws.{FitsPlace}
use Rattle.link_meaning.specs.Layout.{distinct, load_names, number_in, load_of, load_fields, headers_from, load_headers}
use Rattle.link_meaning.specs.LinkValues.{EquateAnswer, place_value, outside_value, found_value}
use Rattle.link_meaning.specs.Fitting.{load_header, length_of}
use Rattle.link_meaning.specs.LinkedCells.{table_number, items_from, items, targets, linked}
use Rattle.link_meaning.specs.declared.fault.LinkCause.TheVariants.{Empty}
use Rattle.link_meaning.specs.LinkFaults as phases
use Rattle.link_meaning.specs.LinkFaults.{LinkInput, HasBytes, MayHave, AreRuntimes, no_spot, Reading, Objects, Layout, IsResolved}
use Rattle.link_meaning.specs.laws.Steps.{may_not_stand, export_of, exports_for}
use Rattle.link_meaning.specs.LinkWritten.{load_images, table_images, images, written_file, table_cells, linked_cells, export_at, exports, path_images, path_cells}
use Rattle.link_meaning.specs.laws.LinkWrittenLaws.{few_loads, standing_loads, short_loads, load_header_fits, are_images}
use Rattle.link_meaning.specs.EmitFaults.{IsLinkable}
use Rattle.link_meaning.specs.laws.EmitFaultLaws.{linkable_made, linkable_short, linkable_stands_for}
use Rattle.link_meaning.specs.LinkLoadable.{table_headers, linked_headers, StandFor, IsLoad, Reaches, OfLoad, OfTable, Names, IsCalled, is_skipped_load, NamesNoSkipped, OnlyCallsReachDynamic, IsLoadedWhereNoneSkipped, IsRuntimeOfForm, HasNoPathnames, HasNoLoadFault, IsNamed, path_headers}
use Rattle.link_meaning.specs.laws.Reached.{all-both, ValuesIn, AllIn, MembersReach, member_reaches, targets_called, linked_reaches}
use Rattle.link_meaning.specs.laws.TablePasses.{pass, all_at}
use Rattle.link_meaning.specs.laws.FarLaws.{far_fits}
use Rattle.link_meaning.specs.laws.WrittenSegments.{IsWritten, AreWrittenAs, are_written_as, length_written, records_written, no_target_fault, bytes_whole, patches_whole, records_whole}
use Rattle.link_meaning.specs.laws.LoadSegmentLaws.{after_headers, same_count, stands, number_is, split_at, plain, count-headers, HasLoad, load_there, skip_read, length_read, PlainKind, load_kind, front_passes, load_segment, shape_whole, Passes, AllPass, load_passes, Known, none_before, targets_there, entries_fit, table_passes'}

-- ---- the pathnames

fields_of_paths : (number : ℕ) (paths : List (List ℕ)) → (pathnames_image number paths).fields ≡ pathnames_fields number (length (paths_text paths))
unfolding pathnames_image
fields_of_paths number paths = refl

content_of_paths : (number : ℕ) (paths : List (List ℕ)) → (pathnames_image number paths).content ≡ paths_text paths
unfolding pathnames_image
content_of_paths number paths = refl

whole_paths : (number : ℕ) (paths : List (List ℕ)) → (pathnames_image number paths).whole ≡ true
unfolding pathnames_image
whole_paths number paths = refl

exports_of_paths : (number : ℕ) (paths : List (List ℕ)) → (pathnames_image number paths).exports ≡ []
unfolding pathnames_image
exports_of_paths number paths = refl

-- what a header of the pathnames says
record PathHeader (number : ℕ) (f : HeaderFields) : Type 0 where
  kind : f.kind ≡ 0x0004
  name : is_express f.name ≡ false
  number' : f.seg_num ≡ number

path_header : (number size : ℕ) → PathHeader number (pathnames_fields number size)
unfolding pathnames_fields table_fields
path_header number size = record { kind = refl; name = refl; number' = refl }

path_kind : (number : ℕ) (paths : List (List ℕ)) (s : Segment) → IsWritten (pathnames_image number paths) s → s.fields.kind ≡ 0x0004
path_kind number paths s is = ap (λ (g : HeaderFields). g.kind) is.read.fields ∙ ap (λ (g : HeaderFields). g.kind) (fields_of_paths number paths) ∙ (path_header number (length (paths_text paths))).kind

path_bytes : (number : ℕ) (paths : List (List ℕ)) (s : Segment) → IsWritten (pathnames_image number paths) s → segment_bytes s ≡ rows_text 2 paths
unfolding paths_text
path_bytes number paths s is = bytes_whole (pathnames_image number paths) s (whole_paths number paths) is ∙ content_of_paths number paths

-- the records are one LCONST and END
one_long : (end size : ℕ) (content : List ℕ) → 1 ≤ length content → size ≡ length content → is_one_long size (placed end (data_records content)) ≡ true
one_long end size [] some e = absurd (omega (arith, some))
one_long end size (b ∷ bytes) some e = eq-eqb (length (b ∷ bytes)) size (sym e)

rows_some : (number : ℕ) (paths : List (List ℕ)) → 1 ≤ length paths → 1 ≤ length (rows_text number paths)
rows_some number [] some = absurd (omega (arith, some))
rows_some number (path ∷ paths) some =
    let rest : List ℕ = replicate 8 0 ++ (length path ∷ path ++ rows_text (number + 1) paths) in
    omega (arith, length-append (little_bytes 2 number) rest, length-bytes_low_first 0 2 number)

path_passes : (segments : List Segment) (number more : ℕ) (paths : List (List ℕ)) (s : Segment) → more ≡ most_paths → IsWritten (pathnames_image number paths) s
    → list_any (λ (u : Segment). eqb (form_of u.fields.kind) 0x04) (take (number - 1) segments) ≡ false → AllByRecursion IsPath paths → length paths ≤ more → 1 ≤ length paths → Passes segments number s
unfolding pathnames_flaw
path_passes segments number more paths s most is before all few some =
    let image = pathnames_image number paths in
    let whole = whole_paths number paths in
    let h = path_header number (length (paths_text paths)) in
    let fields = fields_of_paths number paths in
    let kind = path_kind number paths s is in
    let name : is_express s.fields.name ≡ false = ap (λ (g : HeaderFields). is_express g.name) is.read.fields ∙ ap (λ (g : HeaderFields). is_express g.name) fields ∙ h.name in
    let own : image.fields.seg_num ≡ number = ap (λ (g : HeaderFields). g.seg_num) fields ∙ h.number' in
    let named = subst (AllByRecursion (λ r. entry_refusal segments r ≡ None)) (sym (exports_of_paths number paths)) tt in
    let bytes = path_bytes number paths s is in
    let size : s.fields.length ≡ length image.content = length_written image s is in
    let rs : s.records ≡ placed is.end (data_records image.content) = records_whole image s whole is ∙ ap (λ (l : List Record). placed is.end (data_records image.content ++ l)) (exports_of_paths number paths) ∙ ap (placed is.end) (append-nil (data_records image.content)) in
    let content : 1 ≤ length image.content = omega (arith, ap length (sym (bytes_whole image s whole is) ∙ bytes), rows_some 2 paths some) in
    let long : is_one_long s.fields.length s.records ≡ true = ap (is_one_long s.fields.length) rs ∙ one_long is.end s.fields.length image.content content size in
    let flaw : rows_flaw more 0 0 (segment_bytes s) ≡ None = ap (rows_flaw more 0 0) bytes ∙ (paths_written more paths all few some (omega (arith, few, most))).0 in
    let flaw' : rows_flaw most_paths 0 0 (segment_bytes s) ≡ None = subst (λ (n : ℕ). rows_flaw n 0 0 (segment_bytes s) ≡ None) most flaw in
    let three : Bool × ℕ = (not (is_one_long s.fields.length s.records), 0) in
    let two : Bool × ℕ = (is_dynamic s.fields.kind || is_skipped s.fields.kind, 0) in
    let front : first_of ((list_any has_pathnames (take (number - 1) segments), 0) ∷ two ∷ three ∷ []) ≡ None =
    pass (list_any has_pathnames (take (number - 1) segments)) 0 (two ∷ three ∷ []) before
    (pass two.0 two.1 (three ∷ []) (ap (λ (k : ℕ). is_dynamic k || is_skipped k) kind)
    (pass three.0 three.1 [] (ap not long) refl)) in
    record {
      first = load_segment image segments s is named (front_passes s.fields name (ap (λ (k : ℕ). eqb (form_of k) 0x08) kind));
      shape = shape_whole image s number whole is own;
      target = no_target_fault segments number s (records_written image segments s is named) (subst (AllByRecursion (λ (p : Patch). patch_refusal segments s p ≡ None)) (sym (patches_whole image s whole is)) tt);
      paths = no_answer (has_pathnames s) (first_of ((list_any has_pathnames (take (number - 1) segments), 0) ∷ two ∷ three ∷ [])) (rows_flaw most_paths 0 0 (segment_bytes s)) front flaw';
      table' = ap (λ (k : ℕ). cond (eqb (form_of k) 0x02) (option_map (λ (at : ℕ). table_answer at) (table_flaw segments number s)) None) kind;
    }
  where
    table_answer : ℕ → Fault
    table_answer at = (BadTable, at)

    no_answer : (b : Bool) (o p : Option ℕ) → o ≡ None → p ≡ None → cond b (elim (option_or o p) as (λ x. Option Fault) [ None ↦ None | Some at ↦ Some (BadTable, at) ]) None ≡ None
    no_answer true None None e f = refl
    no_answer false o p e f = refl
    no_answer true None (Some at) e f = absurd cc
    no_answer true (Some at) p e f = absurd cc

-- the paths that are read are those that were written
paths_one : (more : ℕ) (s : Segment) → more ≡ most_paths → has_pathnames s ≡ true → paths_of (s ∷ []) ≡ paths_in more (segment_bytes s)
unfolding paths_of
paths_one more s most is = subst (λ (n : ℕ). cond (has_pathnames s) (paths_in n (segment_bytes s)) [] ≡ paths_in more (segment_bytes s)) most (ap (λ (b : Bool). cond b (paths_in more (segment_bytes s)) []) is)

paths_last : (more number : ℕ) (runtimes : List RuntimeFile) (segments : List Segment) → more ≡ most_paths → AllByRecursion IsPath (map (λ r. r.path) runtimes) → length runtimes ≤ more → AreWrittenAs (path_images number runtimes) segments
    → length (paths_of segments) ≡ length runtimes
unfolding paths_of
paths_last more number [] [] most all few written = refl
paths_last more number [] (s ∷ segments) most all few written = absurd written
paths_last more number (r ∷ runtimes) [] most all few written = absurd written
paths_last more number (r ∷ runtimes) (s ∷ u ∷ segments) most all few written = absurd written.1
paths_last more number (r ∷ runtimes) (s ∷ []) most all few written =
    let paths = map (λ (one : RuntimeFile). one.path) (r ∷ runtimes) in
    let count : length paths ≡ length (r ∷ runtimes) = length-map (r ∷ runtimes) (λ (one : RuntimeFile). one.path) in
    let read = (paths_written more paths all (omega (arith, count, few)) (omega arith) (omega (arith, count, few, most))).1 in
    ap length (paths_one more s most (ap (λ (k : ℕ). eqb (form_of k) 0x04) (path_kind number paths s written.0)) ∙ ap (paths_in more) (path_bytes number paths s written.0) ∙ read) ∙ count

paths_after : (fs last : List HeaderFields) (segments : List Segment) → map plain segments ≡ fs ++ last → AllByRecursion (λ (f : HeaderFields). eqb (form_of f.kind) 0x04 ≡ false) fs → paths_of segments ≡ paths_of (drop (length fs) segments)
unfolding paths_of
paths_after [] last segments e all = refl
paths_after (f ∷ fs) last [] e all = absurd cc
paths_after (f ∷ fs) last (s ∷ segments) e all =
    let head : plain s ≡ f = heads (plain s) f (map plain segments) (fs ++ last) e in
    let here : has_pathnames s ≡ false = ap (λ (g : HeaderFields). eqb (form_of g.kind) 0x04) head ∙ all.0 in
    ap (λ (b : Bool). cond b (paths_in most_paths (segment_bytes s)) (paths_of segments)) here ∙ paths_after fs last segments (tails (plain s) f (map plain segments) (fs ++ last) e) all.1
  where
    heads : (a b : HeaderFields) (xs ys : List HeaderFields) → a ∷ xs ≡ b ∷ ys → a ≡ b
    heads a b xs ys e = cc

    tails : (a b : HeaderFields) (xs ys : List HeaderFields) → a ∷ xs ≡ b ∷ ys → xs ≡ ys
    tails a b xs ys e = cc

written_after : (xs ys : List Image) (segments : List Segment) → AreWrittenAs (xs ++ ys) segments → AreWrittenAs ys (drop (length xs) segments)
written_after [] ys segments written = written
written_after (x ∷ xs) ys [] written = absurd written
written_after (x ∷ xs) ys (s ∷ segments) written = written_after xs ys segments written.1

-- ---- all expressions name load segments

number_in_range : (xs : List (List ℕ)) (x : List ℕ) → IsIn xs x → IsLoad (length xs) (number_in xs x)
number_in_range [] x is = absurd is
number_in_range (y ∷ ys) x is = by_test (bytes_eq y x) refl is (λ more. number_in_range ys x more)
  where
    by_test : (b : Bool) → bytes_eq y x ≡ b → (y ≡ x) ⊎ IsIn ys x → (IsIn ys x → IsLoad (length ys) (number_in ys x)) → IsLoad (suc (length ys)) (cond b 1 (1 + number_in ys x))
    by_test true e h go = (omega arith, omega arith)
    by_test false e (inl same) go = let clash : false ≡ true = sym e ∙ (bytes_eq-Decides y x).1 same in absurd cc
    by_test false e (inr more) go = let rest = go more in (omega arith, omega (arith, rest.1))

-- ---- linkable files

empty_runtimes : (given : List (List ℕ × List ℕ)) (runtimes : List RuntimeFile) → AreRuntimes given runtimes → given ≡ [] → runtimes ≡ []
empty_runtimes [] [] are e = refl
empty_runtimes [] (x ∷ xs) are e = absurd are
empty_runtimes (y ∷ ys) xs are e = absurd cc

module _ (files : LinkInput) (list : List Member) (table : List EquateAnswer) (bytes : HasBytes files) (is : IsLinkable files list table) where
  resolved : IsResolved files list
  resolved = is.resolved

  read : (m : Member) → IsIn list m → IsRead m.segment
  read m in' = members_read files list m bytes resolved.program in'

  whole : (m : Member) → IsIn list m → body_size m.segment ≤ m.segment.fields.length
  whole m in' = let size = read_size m.segment (read m in') in omega (arith, size)

  in_parts : (front : List Member) (m : Member) (back : List Member) → list ≡ front ++ m ∷ back → IsIn list m
  in_parts front m back parts = subst (λ (l : List Member). IsIn l m) (sym parts) (there_in front)
    where
      there_in : (front : List Member) → IsIn (front ++ m ∷ back) m
      there_in [] = inl refl
      there_in (o ∷ front) = inr (there_in front)

  there : (place : ℕ) (m : Member) (at : ℕ) → IsPlaceIn list place m at → FitsPlace (IsNamed list) (place_value list place m at)
  unfolding place_value load_of
  there place m at in' =
      let fits = place_fits files list place m at resolved whole in' in
      (fits.0, inl (refl, number_in_range (load_names list) m.segment.fields.load_name (name_there list m (in_parts in'.front m in'.back in'.parts))), fits.2)

  beyond : (f : FoundDefinition) → IsIn (outside (setting_in list)) f → FitsPlace (IsNamed list) (outside_value f)
  beyond f in' = outside_named list f in'

  records_in : (front : List Member) (m : Member) (back : List Member) → list ≡ front ++ m ∷ back → (loc : ℕ) (founds : List (ℕ × Record)) → place_after loc founds ≤ body_size m.segment
      → AllIn list table (map (λ r. record { place = length front + 1; member = m; here = r }) (located_from loc founds))
  records_in front m back parts loc [] le = tt
  records_in front m back parts loc (found ∷ founds) le =
      let place : IsPlaceIn list (length front + 1) m loc = record { front = front; back = back; parts = parts; number = refl; inside = omega (arith, le, following-le (loc + size_at loc found.1) founds) } in
      (λ text v e. expression_fits (IsNamed list) list table is.emitted.valued there beyond (length front + 1) m loc text place v e, records_in front m back parts (loc + size_at loc found.1) founds le)

  items_in : (front ms : List Member) → list ≡ front ++ ms → AllIn list table (items_from (length front + 1) ms)
  unfolding records_with_offsets body_size
  items_in front [] parts = tt
  items_in front (m ∷ ms) parts =
      let next : length (front ++ m ∷ []) + 1 ≡ length front + 1 + 1 = ap (λ (n : ℕ). n + 1) (length-append front (m ∷ [])) in
      all-both (ValuesIn list table) (map (λ r. record { place = length front + 1; member = m; here = r }) (located_from 0 m.segment.records)) (items_from (length front + 1 + 1) ms)
      (records_in front m ms parts 0 m.segment.records (omega arith))
      (subst (λ (n : ℕ). AllIn list table (items_from n ms)) next (items_in (front ++ m ∷ []) ms (parts ∙ sym (append_assoc front (m ∷ []) ms))))

  all_in : AllIn list table (items list)
  unfolding items
  all_in = items_in [] list refl

  reached : MembersReach list table
  reached front m back parts =
      let some = read_some m.segment (read m (in_parts front m back parts)) in
      member_reaches list table front m back parts (linkable_made list table is.emitted) all_in some.0 some.1 some.2

  objects_there : objects resolved.program.setting resolved.program.inputs ≡ [] → ⊥
  objects_there none = resolved.sound (Reading ∷ []) Objects (phases.Names ∷ Layout ∷ []) (record { cause = Empty; name = None; spot = no_spot }) refl (resolved.program.setting, resolved.program.inputs, resolved.program.is_setting, resolved.program.are_inputs, none, refl)

  names_some : load_names list ≡ [] → ⊥
  names_some none = by_list (objects resolved.program.setting resolved.program.inputs) refl
    where
      by_list : (ms : List Member) → objects resolved.program.setting resolved.program.inputs ≡ ms → ⊥
      by_list [] e = objects_there e
      by_list (m ∷ ms) e =
          let parts : list ≡ m ∷ (ms ++ resolved.program.linked.added) = resolved.program.linked.parts ∙ ap (λ (l : List Member). l ++ resolved.program.linked.added) e in
          let here : IsIn list m = subst (λ (l : List Member). IsIn l m) (sym parts) (inl refl) in
          subst (λ (l : List (List ℕ)). IsIn l m.segment.fields.load_name) none (name_there list m here)

  library_alone : resolved.program.setting.form ≡ LibraryForm → resolved.program.setting.runtimes ≡ []
  library_alone e = empty_runtimes files.runtimes resolved.program.setting.runtimes resolved.program.is_setting.runtimes' (no_files files.form (sym resolved.program.is_setting.form' ∙ e) bytes.3)
    where
      no_files : (form : LinkForm) → form ≡ LibraryForm → MayHave form files.runtimes → files.runtimes ≡ []
      no_files Program is' may = absurd cc
      no_files LibraryForm is' may = may

  known : Known list table
  known = record {
    reach = reached;
    called = targets_called list table (linkable_made list table is.emitted) all_in;
    kinds = λ m in'. read_kind m.segment (read m in');
    headers = λ m in'. read_header m.segment (read m in');
    few = few_loads files list resolved;
    short = short_loads files list resolved;
    images' = (are_images files list table bytes resolved (all_sound files list table bytes resolved is.emitted.valued) (linkable_made list table is.emitted) (linkable_short list table is.emitted)).1;
    some = names_some;
    far = far_fits files list bytes resolved.program;
    paths = has_paths files list bytes resolved.program;
    standing = standing_loads files list resolved;
    lone = of_setting files list resolved.program (λ (s : LinkSetting). s.form ≡ LibraryForm → s.runtimes ≡ []) (λ e. refl) library_alone;
    values = entry_fits (IsNamed list) list table is.emitted.valued there beyond;
  }

pub only_calls_reach_dynamic : OnlyCallsReachDynamic
only_calls_reach_dynamic files list table bytes is =
    let k = known files list table bytes is in (
      λ i x e. let split = split_at (load_names list) i x e in
          let number : number_in (load_names list) x ≡ i + 1 = number_is list split.front x split.back split.parts ∙ ap (λ (n : ℕ). n + 1) split.size in
          subst (λ (n : ℕ). AllByRecursion (λ (c : Cell). Names (Reaches list (targets list table) n) c) (linked list table x)) number (linked_reaches list table x k.reach),
      k.called,
    )

-- ---- all segments pass

name_is : (list : List Member) (number : ℕ) (x : List ℕ) → (load_fields list number x).load_name ≡ x
unfolding load_fields
name_is list number x = refl

in_names : (list : List Member) (front : List (List ℕ)) (x : List ℕ) (back : List (List ℕ)) → load_names list ≡ front ++ x ∷ back → IsIn (load_names list) x
in_names list front x back parts = subst (λ (l : List (List ℕ)). IsIn l x) (sym parts) (there_in front)
  where
    there_in : (front : List (List ℕ)) → IsIn (front ++ x ∷ back) x
    there_in [] = inl refl
    there_in (y ∷ front) = inr (there_in front)

abbrev NoSkipped : List Member → List Cell → Type 0
NoSkipped list cs = AllByRecursion (λ (c : Cell). Names (λ (n : ℕ). is_skipped_load (load_headers list) n ≡ false) c) cs

-- ---- what is exported

and_last : (a b : Bool) → not (a && not b) ≡ false → b ≡ false
and_last true false e = refl
and_last true true e = absurd cc
and_last false b e = absurd cc

-- no load segment of a run-time library file is skipped
not_skipped : (list : List Member) (table : List EquateAnswer) (segments : List Segment) (number : ℕ) → Known list table → form_in list ≡ LibraryForm → HasLoad list segments number → is_skipped_load (load_headers list) number ≡ false
not_skipped list table segments number k form l =
    let stands' : may_not_stand (form_in list) l.fields ≡ false = all_at (λ f. may_not_stand (form_in list) f ≡ false) (load_headers list) (number - 1) l.fields k.standing l.header in
    let kept : is_skipped l.fields.kind ≡ false = and_last (is_dynamic l.fields.kind) (is_skipped l.fields.kind) (ap (λ (f : LinkForm). may_not_stand f l.fields) (sym form) ∙ stands') in
    ap (λ (o : Option HeaderFields). elim o as (λ x. Bool) [ None ↦ false | Some f ↦ is_skipped f.kind ]) l.header ∙ kept

place_there : (list : List Member) (table : List EquateAnswer) (segments : List Segment) (number offset : ℕ) → StandFor list table segments → Known list table → form_in list ≡ LibraryForm → IsLoad (length (load_names list)) number
    → offset < length_of (load_headers list) number → is_place segments number offset ≡ true
place_there list table segments number offset stand k form load below =
    let l = load_there list table segments number stand load in
    let kept : not (is_skipped l.s.fields.kind) ≡ true = ap not (skip_read list segments number l (not_skipped list table segments number k form l)) in
    let inside : ltb offset l.s.fields.length ≡ true = lt-ltb offset l.s.fields.length (omega (arith, below, length_read list segments number l)) in
    ap (λ (o : Option Segment). option_map_or (λ (s : Segment). not (is_skipped s.fields.kind) && ltb offset s.fields.length) o false) l.is ∙ and_from (not (is_skipped l.s.fields.kind)) (ltb offset l.s.fields.length) kept inside

abbrev Passing : List Segment → Record → Type 0
Passing segments r = entry_refusal segments r ≡ None

value_passes : (list : List Member) (table : List EquateAnswer) (segments : List Segment) (name : List ℕ) (r : Result Value ValueFault) → StandFor list table segments → Known list table → form_in list ≡ LibraryForm
    → ((v : Value) → r ≡ Ok v → FitsPlace (IsNamed list) v) → AllByRecursion (Passing segments) (export_at (load_headers list) name r)
value_passes list table segments name (Ok (Fixed n)) stand k form fits = tt
value_passes list table segments name (Err fault) stand k form fits = tt
value_passes list table segments name (Ok (At file number offset shift)) stand k form fits = by_test (is_unshifted shift && ltb offset (length_of (load_headers list) number)) refl
  where
    load : IsNamed list file number → IsLoad (length (load_names list)) number
    load (inl here) = here.1
    load (inr far) = absurd (omega (arith, far.0, far.1, ap length (k.lone form)))

    by_test : (b : Bool) → (is_unshifted shift && ltb offset (length_of (load_headers list) number)) ≡ b → AllByRecursion (Passing segments) (cond b (Exported number offset name ∷ []) [])
    by_test false e = tt
    by_test true e =
        let below = ltb-true offset (length_of (load_headers list) number) (and_parts (is_unshifted shift) (ltb offset (length_of (load_headers list) number)) e).1 in
        let place = place_there list table segments number offset stand k form (load (fits (At file number offset shift) refl).1) below in
        (ap (λ (b : Bool). cond b None (Some NoSuchTarget)) place, tt)

export_passes : (list : List Member) (table : List EquateAnswer) (segments : List Segment) (f : FoundDefinition) → IsIn (entries list) f → StandFor list table segments → Known list table → form_in list ≡ LibraryForm → AllByRecursion (Passing segments) (export_of list table f)
export_passes list table segments f is stand k form = by_scope f.definition.scope
  where
    by_scope : (scope : Scope) → AllByRecursion (Passing segments) (elim scope as (λ x. List Record) [
      | ForSegment ↦ []
      | ForUnit ↦ []
      | ForAll ↦ export_at (load_headers list) f.definition.name (found_value list table f)
    ])
    by_scope ForSegment = tt
    by_scope ForUnit = tt
    by_scope ForAll = value_passes list table segments f.definition.name (found_value list table f) stand k form (k.values f is)

exports_pass : (list : List Member) (table : List EquateAnswer) (segments : List Segment) (fs : List FoundDefinition) → ((f : FoundDefinition) → IsIn fs f → IsIn (entries list) f) → StandFor list table segments → Known list table → form_in list ≡ LibraryForm
    → AllByRecursion (Passing segments) (flat_map (export_of list table) fs)
exports_pass list table segments [] among stand k form = tt
exports_pass list table segments (f ∷ fs) among stand k form =
    subst (AllByRecursion (Passing segments)) (sym (flat_map-cons (export_of list table) f fs))
    (all-both (Passing segments) (export_of list table f) (flat_map (export_of list table) fs) (export_passes list table segments f (among f (inl refl)) stand k form) (exports_pass list table segments fs (λ g is. among g (inr is)) stand k form))

-- the ENTRY records of a load segment
given_exports : (list : List Member) (table : List EquateAnswer) (segments : List Segment) (number : ℕ) → StandFor list table segments → Known list table → AllByRecursion (Passing segments) (exports_for (form_in list) number (exports list table))
unfolding exports
given_exports list table segments number stand k = by_form (form_in list) refl
  where
    by_number : (b : Bool) → AllByRecursion (Passing segments) (flat_map (export_of list table) (entries list)) → AllByRecursion (Passing segments) (cond b (flat_map (export_of list table) (entries list)) [])
    by_number true all = all
    by_number false all = tt

    by_form : (form : LinkForm) → form_in list ≡ form → AllByRecursion (Passing segments) (exports_for form number (flat_map (export_of list table) (entries list)))
    by_form Program e = tt
    by_form LibraryForm e = by_number (eqb number 1) (exports_pass list table segments (entries list) (λ f is. is) stand k e)

loads_pass : (list : List Member) (table : List EquateAnswer) (segments : List Segment) (tables : List Image) (front xs : List (List ℕ)) (segs : List Segment) → StandFor list table segments → Known list table → load_names list ≡ front ++ xs
    → AreWrittenAs (load_images list table (length front + 1) xs ++ tables) segs → AllByRecursion (NoSkipped list) (map (linked list table) xs)
    → ((rest : List Segment) → AreWrittenAs tables rest → AllPass segments (table_number list) rest) → AllPass segments (length front + 1) segs
loads_pass list table segments tables front [] segs stand k parts written none rest =
    let size : length front + 1 ≡ table_number list = ap (λ (n : ℕ). n + 1) (sym (ap length (parts ∙ append-none front))) in
    subst (λ (n : ℕ). AllPass segments n segs) (sym size) (rest segs written)
  where
    append-none : (l : List (List ℕ)) → l ++ [] ≡ l
    append-none [] = refl
    append-none (x ∷ l) = ap (λ (m : List (List ℕ)). x ∷ m) (append-none l)
loads_pass list table segments tables front (x ∷ xs) [] stand k parts written none rest = absurd written
loads_pass list table segments tables front (x ∷ xs) (s ∷ segs) stand k parts written none rest =
    let n = length front + 1 in
    let next : length (front ++ x ∷ []) + 1 ≡ n + 1 = ap (λ (i : ℕ). i + 1) (length-append front (x ∷ [])) in
    let in' = in_names list front x xs parts in
    let reach = subst (λ (i : ℕ). AllByRecursion (λ (c : Cell). Names (Reaches list (targets list table) i) c) (linked list table x)) (number_is list front x xs parts) (linked_reaches list table x k.reach) in
    let ten : length x ≡ 10 = ap length (sym (name_is list n x)) ∙ (load_header_fits list n x k.headers in').load_name in
    let more : AreWrittenAs (load_images list table (length (front ++ x ∷ []) + 1) xs ++ tables) segs = subst (λ (i : ℕ). AreWrittenAs (load_images list table i xs ++ tables) segs) (sym next) written.1 in (
      load_passes list table segments n x (exports_for (form_in list) n (exports list table)) s (given_exports list table segments n stand k) stand written.0 reach none.0 (load_kind list n x k.kinds in') ten,
      subst (λ (i : ℕ). AllPass segments i segs) next (loads_pass list table segments tables (front ++ x ∷ []) xs segs stand k (parts ∙ sym (append_assoc front (x ∷ []) xs)) more none.1 rest),
    )

kinds_all : (list : List Member) (number : ℕ) (xs : List (List ℕ)) → ((m : Member) → IsIn list m → PlainKind m.segment.fields.kind) → ((x : List ℕ) → IsIn xs x → IsIn (load_names list) x)
    → AllByRecursion (λ (f : HeaderFields). PlainKind f.kind) (headers_from list number xs)
kinds_all list number [] kinds among = tt
kinds_all list number (x ∷ xs) kinds among = (load_kind list number x kinds (among x (inl refl)), kinds_all list (number + 1) xs kinds (λ y is. among y (inr is)))

plain_loads : (list : List Member) → ((m : Member) → IsIn list m → PlainKind m.segment.fields.kind) → AllByRecursion (λ (f : HeaderFields). PlainKind f.kind) (load_headers list)
unfolding load_headers
plain_loads list kinds = kinds_all list 1 (load_names list) kinds (λ x is. is)

no_tables : (fs : List HeaderFields) → AllByRecursion (λ (f : HeaderFields). PlainKind f.kind) fs → AllByRecursion (λ (f : HeaderFields). eqb (form_of f.kind) 0x02 ≡ false) fs
no_tables [] all = tt
no_tables (f ∷ fs) all = (all.0.0, no_tables fs all.1)

no_pathnames : (fs : List HeaderFields) → AllByRecursion (λ (f : HeaderFields). PlainKind f.kind) fs → AllByRecursion (λ (f : HeaderFields). eqb (form_of f.kind) 0x04 ≡ false) fs
no_pathnames [] all = tt
no_pathnames (f ∷ fs) all = (all.0.1, no_pathnames fs all.1)

table_kind : (number : ℕ) (ts : List Target) → AllByRecursion (λ (f : HeaderFields). eqb (form_of f.kind) 0x04 ≡ false) (table_headers number ts)
unfolding table_fields
table_kind number [] = tt
table_kind number (t ∷ ts) = (refl, tt)

-- the headers before the pathnames
abbrev front_headers : List Member → List EquateAnswer → List HeaderFields
front_headers list table = load_headers list ++ table_headers (table_number list) (targets list table)

front_kinds : (list : List Member) (table : List EquateAnswer) → Known list table → AllByRecursion (λ (f : HeaderFields). eqb (form_of f.kind) 0x04 ≡ false) (front_headers list table)
front_kinds list table k =
    all-both (λ (f : HeaderFields). eqb (form_of f.kind) 0x04 ≡ false) (load_headers list) (table_headers (table_number list) (targets list table)) (no_pathnames (load_headers list) (plain_loads list k.kinds)) (table_kind (table_number list) (targets list table))

abbrev paths_number : List Member → List EquateAnswer → ℕ
paths_number list table = table_number list + length (table_images (table_number list) (targets list table))

front_stands : (list : List Member) (table : List EquateAnswer) (segments : List Segment) → StandFor list table segments
    → map plain segments ≡ front_headers list table ++ path_headers (table_number list + length (table_headers (table_number list) (targets list table))) (setting_in list).runtimes
unfolding linked_headers
front_stands list table segments stand =
    stand.headers ∙ sym (append_assoc (load_headers list) (table_headers (table_number list) (targets list table)) (path_headers (table_number list + length (table_headers (table_number list) (targets list table))) (setting_in list).runtimes))

front_size : (list : List Member) (table : List EquateAnswer) → length (front_headers list table) ≡ length (load_names list) + length (table_images (table_number list) (targets list table))
front_size list table =
    length-append (load_headers list) (table_headers (table_number list) (targets list table)) ∙ ap (λ (n : ℕ). n + length (table_headers (table_number list) (targets list table))) (count-headers list)
    ∙ ap (λ (n : ℕ). length (load_names list) + n) (sym (same_count (table_number list) (targets list table)))

length-images : (list : List Member) (table : List EquateAnswer) (number : ℕ) (xs : List (List ℕ)) → length (load_images list table number xs) ≡ length xs
length-images list table number [] = refl
length-images list table number (x ∷ xs) = ap suc (length-images list table (number + 1) xs)

-- as many rows are read as there are run-time library files
rows_read : (list : List Member) (table : List EquateAnswer) (segments : List Segment) → StandFor list table segments → Known list table → AreWrittenAs (images list table) segments → length (paths_of segments) ≡ length (setting_in list).runtimes
unfolding images
rows_read list table segments stand k written =
    let loads = load_images list table 1 (load_names list) in
    let tables = table_images (table_number list) (targets list table) in
    let last = path_images (paths_number list table) (setting_in list).runtimes in
    let grouped : AreWrittenAs ((loads ++ tables) ++ last) segments = subst (λ (l : List Image). AreWrittenAs l segments) (sym (append_assoc loads tables last)) written in
    let size : length (loads ++ tables) ≡ length (front_headers list table) = omega (arith, length-append loads tables, length-images list table 1 (load_names list), front_size list table) in
    let following : AreWrittenAs last (drop (length (front_headers list table)) segments) = subst (λ (n : ℕ). AreWrittenAs last (drop n segments)) size (written_after (loads ++ tables) last segments grouped) in
    ap length (paths_after (front_headers list table) (path_headers (table_number list + length (table_headers (table_number list) (targets list table))) (setting_in list).runtimes) segments (front_stands list table segments stand) (front_kinds list table k))
    ∙ paths_last most_paths (paths_number list table) (setting_in list).runtimes (drop (length (front_headers list table)) segments) refl k.paths.paths k.paths.few following

paths_pass : (list : List Member) (table : List EquateAnswer) (segments : List Segment) (number : ℕ) (runtimes : List RuntimeFile) (rest : List Segment) → list_any (λ (u : Segment). eqb (form_of u.fields.kind) 0x04) (take (number - 1) segments) ≡ false
    → AllByRecursion IsPath (map (λ r. r.path) runtimes) → length runtimes ≤ most_paths → AreWrittenAs (path_images number runtimes) rest → AllPass segments number rest
paths_pass list table segments number [] [] before all few written = tt
paths_pass list table segments number [] (s ∷ rest) before all few written = absurd written
paths_pass list table segments number (r ∷ runtimes) [] before all few written = absurd written
paths_pass list table segments number (r ∷ runtimes) (s ∷ u ∷ rest) before all few written = absurd written.1
paths_pass list table segments number (r ∷ runtimes) (s ∷ []) before all few written =
    let paths = map (λ (one : RuntimeFile). one.path) (r ∷ runtimes) in
    let count : length paths ≡ length (r ∷ runtimes) = length-map (r ∷ runtimes) (λ (one : RuntimeFile). one.path) in
    (path_passes segments number most_paths paths s refl written.0 before all (omega (arith, count, few)) (omega arith), tt)

table_pass : (list : List Member) (table : List EquateAnswer) (segments : List Segment) (ts : List Target) (more : List Image) (rest : List Segment) → StandFor list table segments → Known list table → AllByRecursion (IsCalled list) ts
    → AllByRecursion (IsTarget segments) ts → AreWrittenAs (table_images (table_number list) ts ++ more) rest
    → ((segs : List Segment) → AreWrittenAs more segs → AllPass segments (table_number list + length (table_images (table_number list) ts)) segs) → AllPass segments (table_number list) rest
table_pass list table segments [] more rest stand k called there written go =
    let none : table_number list + 0 ≡ table_number list = omega arith in
    subst (λ (n : ℕ). AllPass segments n rest) none (go rest written)
table_pass list table segments (t ∷ ts) more [] stand k called there written go = absurd written
table_pass list table segments (t ∷ ts) more (s ∷ rest) stand k called there written go =
    (table_passes' list table segments s (t ∷ ts) stand written.0 (no_tables (load_headers list) (plain_loads list k.kinds)) (entries_fit list table (t ∷ ts) k called) there, go rest written.1)

front-all : {A : Type 0} → (P : A → Type 0) (xs ys : List A) → AllByRecursion P (xs ++ ys) → AllByRecursion P xs
front-all P [] ys all = tt
front-all P (x ∷ xs) ys all = (all.0, front-all P xs ys all.1)

all_pass : (list : List Member) (table : List EquateAnswer) (segments : List Segment) → StandFor list table segments → Known list table → NamesNoSkipped list table → AreWrittenAs (images list table) segments → AllPass segments 1 segments
unfolding linked_cells images
all_pass list table segments stand k none written =
    let tables = table_images (table_number list) (targets list table) in
    let last = path_images (paths_number list table) (setting_in list).runtimes in
    let there = targets_there list table segments (targets list table) stand (rows_read list table segments stand k written) k.called none.entries in
    let place : paths_number list table - 1 ≡ length (front_headers list table) = omega (arith, front_size list table) in
    let before : list_any (λ (u : Segment). eqb (form_of u.fields.kind) 0x04) (take (paths_number list table - 1) segments) ≡ false =
    ap (λ (n : ℕ). list_any (λ (u : Segment). eqb (form_of u.fields.kind) 0x04) (take n segments)) place ∙ none_before 0x04 (front_headers list table) (path_headers (table_number list + length (table_headers (table_number list) (targets list table))) (setting_in list).runtimes) segments (front_stands list table segments stand) (front_kinds list table k) in
    loads_pass list table segments (tables ++ last) [] (load_names list) segments stand k refl written
    (front-all (NoSkipped list) (map (linked list table) (load_names list)) (table_cells (targets list table) ++ path_cells (setting_in list).runtimes) none.parts)
    (λ rest w. table_pass list table segments (targets list table) last rest stand k k.called there w
    (λ segs v. paths_pass list table segments (paths_number list table) (setting_in list).runtimes segs before k.paths.paths k.paths.few v))

none_in : (phase : ℕ → Segment → Option Fault) (all : List Segment) (number : ℕ) (segs : List Segment) → ((n : ℕ) (s : Segment) → Passes all n s → phase n s ≡ None) → AllPass all number segs → first_in phase number segs ≡ None
none_in phase all number [] each pass = refl
none_in phase all number (s ∷ segs) each pass =
    ap (λ (o : Option Fault). option_or (option_map (in_segment number) o) (first_in phase (number + 1) segs)) (each number s pass.0) ∙ none_in phase all (number + 1) segs each pass.1

all_first : (all : List Segment) (number : ℕ) (segs : List Segment) → AllPass all number segs → AllByRecursion IsLoadSegment segs
all_first all number [] pass = tt
all_first all number (s ∷ segs) pass = (pass.0.first, all_first all (number + 1) segs pass.1)

no_later : (segments : List Segment) → AllPass segments 1 segments → later_fault segments ≡ None
unfolding later_fault
no_later segments pass =
    let one = none_in shape_fault segments 1 segments (λ n s p. p.shape) pass in
    let two = none_in (target_fault segments) segments 1 segments (λ n s p. p.target) pass in
    let three = none_in (pathnames_fault segments) segments 1 segments (λ n s p. p.paths) pass in
    let four = none_in (table_fault segments) segments 1 segments (λ n s p. p.table') pass in
    ap (λ (o : Option LoadFault). option_or o (option_or (first_in (target_fault segments) 1 segments) (option_or (first_in (pathnames_fault segments) 1 segments) (first_in (table_fault segments) 1 segments)))) one
    ∙ ap (λ (o : Option LoadFault). option_or o (option_or (first_in (pathnames_fault segments) 1 segments) (first_in (table_fault segments) 1 segments))) two
    ∙ ap (λ (o : Option LoadFault). option_or o (first_in (table_fault segments) 1 segments)) three ∙ four

segments_some : (list : List Member) (table : List EquateAnswer) (segments : List Segment) → StandFor list table segments → (load_names list ≡ [] → ⊥) → segments ≡ [] → ⊥
unfolding linked_headers
segments_some list table segments stand some none =
    let empty : [] ≡ load_headers list ++ after_headers list table = sym (ap (map plain) none) ∙ stand.headers in
    some (by_names (load_names list) (omega (arith, ap length empty, length-append (load_headers list) (after_headers list table), count-headers list)))
  where
    by_names : (l : List (List ℕ)) → length l ≡ 0 → l ≡ []
    by_names [] e = refl
    by_names (x ∷ l) e = absurd (omega (arith, e))

written_loaded : (files : LinkInput) (list : List Member) (table : List EquateAnswer) → HasBytes files → IsLinkable files list table → NamesNoSkipped list table
    → (segments : List Segment) × IsLoadable (written_file list table) segments × StandFor list table segments
unfolding written_file
written_loaded files list table bytes is none =
    let k = known files list table bytes is in
    let made = linkable_stands_for files list table bytes is in
    let stand = stands list table made.0 made.2 made.3 in
    let pass = all_pass list table made.0 stand k none (are_written_as (images list table) made.0 made.1 k.images' made.2) in
    (made.0, record { is_file = made.1; some = segments_some list table made.0 stand k.some; pass = all_first made.0 1 made.0 pass; sound = no_later made.0 pass }, stand)

pub is_loaded : IsLoadedWhereNoneSkipped
is_loaded files output bytes is none =
    let loaded = written_loaded files is.list is.table bytes is.linkable none in
    (loaded.0, subst (λ (l : List ℕ). IsLoadable l loaded.0) (sym is.is_written) loaded.1, loaded.2)

pub has_no_load_fault : HasNoLoadFault
has_no_load_fault files output bytes is none fault first = let loaded = is_loaded files output bytes is none in loadable_sound output loaded.0 fault loaded.1 first

-- ---- run-time library files

no_load_skipped : (list : List Member) (table : List EquateAnswer) (number : ℕ) → Known list table → form_in list ≡ LibraryForm → is_skipped_load (load_headers list) number ≡ false
no_load_skipped list table number k form = by_header (load_header (load_headers list) number) refl
  where
    by_header : (o : Option HeaderFields) → load_header (load_headers list) number ≡ o → is_skipped_load (load_headers list) number ≡ false
    by_header None e = ap (λ (p : Option HeaderFields). elim p as (λ x. Bool) [ None ↦ false | Some f ↦ is_skipped f.kind ]) e
    by_header (Some f) e =
        let stands' : may_not_stand (form_in list) f ≡ false = all_at (λ g. may_not_stand (form_in list) g ≡ false) (load_headers list) (number - 1) f k.standing e in
        ap (λ (p : Option HeaderFields). elim p as (λ x. Bool) [ None ↦ false | Some g ↦ is_skipped g.kind ]) e ∙ and_last (is_dynamic f.kind) (is_skipped f.kind) (ap (λ (o : LinkForm). may_not_stand o f) (sym form) ∙ stands')

-- it has no entries
no_targets : (list : List Member) (ts : List Target) → AllByRecursion (IsCalled list) ts → form_in list ≡ LibraryForm → ts ≡ []
no_targets list [] called form = refl
no_targets list (t ∷ ts) called form = absurd (other (sym called.0.0 ∙ form))
  where
    other : Program ≡ LibraryForm → ⊥
    other e = cc

names_through : (P Q : ℕ → Type 0) (cs : List Cell) → ((n : ℕ) → P n → Q n) → AllByRecursion (λ (c : Cell). Names P c) cs → AllByRecursion (λ (c : Cell). Names Q c) cs
names_through P Q [] go all = tt
names_through P Q (Byte b ∷ cs) go all = (tt, names_through P Q cs go all.1)
names_through P Q (Part file segment offset shift index ∷ cs) go all = (go segment all.0, names_through P Q cs go all.1)

loads_unskipped : (list : List Member) (table : List EquateAnswer) (xs : List (List ℕ)) → Known list table → form_in list ≡ LibraryForm → targets list table ≡ [] → AllByRecursion (NoSkipped list) (map (linked list table) xs)
loads_unskipped list table [] k form none = tt
loads_unskipped list table (x ∷ xs) k form none =
    (names_through (Reaches list (targets list table) (number_in (load_names list) x)) (λ (n : ℕ). is_skipped_load (load_headers list) n ≡ false) (linked list table x) named (linked_reaches list table x k.reach), loads_unskipped list table xs k form none)
  where
    named : (n : ℕ) → Reaches list (targets list table) (number_in (load_names list) x) n → is_skipped_load (load_headers list) n ≡ false
    named n (OfLoad load near) = no_load_skipped list table n k form
    named n (OfTable is some) = absurd (some none)

library_unskipped : (list : List Member) (table : List EquateAnswer) → Known list table → form_in list ≡ LibraryForm → NamesNoSkipped list table
unfolding linked_cells
library_unskipped list table k form =
    let none = no_targets list (targets list table) k.called form in
    let alone' = k.lone form in
    let cells' : map (linked list table) (load_names list) ≡ map (linked list table) (load_names list) ++ (table_cells (targets list table) ++ path_cells (setting_in list).runtimes) =
    sym (ap (λ (ts : List Target). map (linked list table) (load_names list) ++ (table_cells ts ++ path_cells (setting_in list).runtimes)) none
    ∙ ap (λ (rs : List RuntimeFile). map (linked list table) (load_names list) ++ path_cells rs) alone' ∙ append-nil (map (linked list table) (load_names list))) in
    record {
      parts = subst (AllByRecursion (NoSkipped list)) cells' (loads_unskipped list table (load_names list) k form none);
      entries = subst (AllByRecursion (λ (t : Target). t.file ≡ 1 → is_skipped_load (load_headers list) t.segment ≡ false)) (sym none) tt;
    }

library_headers : (list : List Member) (table : List EquateAnswer) → Known list table → form_in list ≡ LibraryForm → linked_headers list table ≡ load_headers list
unfolding linked_headers
library_headers list table k form =
    ap (λ (ts : List Target). load_headers list ++ (table_headers (table_number list) ts ++ path_headers (table_number list + length (table_headers (table_number list) ts)) (setting_in list).runtimes)) (no_targets list (targets list table) k.called form)
    ∙ ap (λ (rs : List RuntimeFile). load_headers list ++ path_headers (table_number list + 0) rs) (k.lone form) ∙ append-nil (load_headers list)

kinds_pass : (number : ℕ) (fs : List HeaderFields) (segments : List Segment) → map plain segments ≡ fs → AllByRecursion (λ (f : HeaderFields). may_not_stand LibraryForm f ≡ false) fs → first_in kind_fault number segments ≡ None
kinds_pass number [] [] e all = refl
kinds_pass number [] (s ∷ segments) e all = absurd cc
kinds_pass number (f ∷ fs) [] e all = absurd cc
kinds_pass number (f ∷ fs) (s ∷ segments) e all =
    let head : plain s ≡ f = heads (plain s) f (map plain segments) fs e in
    let here : not (is_dynamic s.fields.kind && not (is_skipped s.fields.kind)) ≡ false = ap (λ (g : HeaderFields). not (is_dynamic g.kind && not (is_skipped g.kind))) head ∙ all.0 in
    by_kind (is_dynamic s.fields.kind && not (is_skipped s.fields.kind)) here (kinds_pass (number + 1) fs segments (tails (plain s) f (map plain segments) fs e) all.1)
  where
    heads : (a b : HeaderFields) (xs ys : List HeaderFields) → a ∷ xs ≡ b ∷ ys → a ≡ b
    heads a b xs ys e = cc

    tails : (a b : HeaderFields) (xs ys : List HeaderFields) → a ∷ xs ≡ b ∷ ys → xs ≡ ys
    tails a b xs ys e = cc

    by_kind : (b : Bool) → not b ≡ false → first_in kind_fault (number + 1) segments ≡ None → option_or (option_map (in_segment number) (cond b None (Some (NotLoadFile, s.start)))) (first_in kind_fault (number + 1) segments) ≡ None
    by_kind true e rest = rest
    by_kind false e rest = absurd cc

pub is_runtime : IsRuntimeOfForm
unfolding runtime_fault load_names
is_runtime files output bytes is library =
    let k = known files is.list is.table bytes is.linkable in
    let program = is.linkable.resolved.program in
    let some : is.list ≡ [] → ⊥ = λ e. k.some (ap (λ (l : List Member). distinct (map (λ (m : Member). m.segment.fields.load_name) l)) e) in
    let form : form_in is.list ≡ LibraryForm = ap (λ (s : LinkSetting). s.form) (setting_of files is.list program some) ∙ program.is_setting.form' ∙ library in
    let loaded = is_loaded files output bytes is (library_unskipped is.list is.table k form) in
    let standing = subst (λ (f : LinkForm). AllByRecursion (λ (g : HeaderFields). may_not_stand f g ≡ false) (load_headers is.list)) form k.standing in
    (loaded.0, record { loadable = loaded.1; dynamic = kinds_pass 1 (load_headers is.list) loaded.0 (loaded.2.headers ∙ library_headers is.list is.table k form) standing }, loaded.2)

-- ---- no pathname segment

none_from : (number : ℕ) (fs : List HeaderFields) (segments : List Segment) → map plain segments ≡ fs → AllByRecursion (λ (f : HeaderFields). eqb (form_of f.kind) 0x04 ≡ false) fs → pathnames_from number segments ≡ None
none_from number [] [] e all = refl
none_from number [] (s ∷ segments) e all = absurd cc
none_from number (f ∷ fs) [] e all = absurd cc
none_from number (f ∷ fs) (s ∷ segments) e all =
    let head : plain s ≡ f = heads (plain s) f (map plain segments) fs e in
    let here : has_pathnames s ≡ false = ap (λ (g : HeaderFields). eqb (form_of g.kind) 0x04) head ∙ all.0 in
    ap (λ (b : Bool). cond b (Some number) (pathnames_from (number + 1) segments)) here ∙ none_from (number + 1) fs segments (tails (plain s) f (map plain segments) fs e) all.1
  where
    heads : (a b : HeaderFields) (xs ys : List HeaderFields) → a ∷ xs ≡ b ∷ ys → a ≡ b
    heads a b xs ys e = cc

    tails : (a b : HeaderFields) (xs ys : List HeaderFields) → a ∷ xs ≡ b ∷ ys → xs ≡ ys
    tails a b xs ys e = cc

pub has_no_pathnames : HasNoPathnames
has_no_pathnames files output bytes is none segments stand =
    let k = known files is.list is.table bytes is.linkable in
    let program = is.linkable.resolved.program in
    let alone' : (setting_in is.list).runtimes ≡ [] =
    of_setting files is.list program (λ (s : LinkSetting). s.runtimes ≡ []) refl (empty_runtimes files.runtimes program.setting.runtimes program.is_setting.runtimes' none) in
    let number = table_number is.list + length (table_headers (table_number is.list) (targets is.list is.table)) in
    none_from 1 (front_headers is.list is.table) segments
    (front_stands is.list is.table segments stand ∙ ap (λ (rs : List RuntimeFile). front_headers is.list is.table ++ path_headers number rs) alone' ∙ append-nil (front_headers is.list is.table))
    (front_kinds is.list is.table k)
