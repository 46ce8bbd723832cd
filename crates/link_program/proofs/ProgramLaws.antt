-- What is kept of a program, once its load segments have no fault.
use Rattle.std.proofs.Common.{◌≡◌, inl, inr, ℕ, zero, suc, ◌+◌, ◌-◌, ◌≤◌, ◌<◌, ◌^◌, Bool, true, false, List, [], ◌∷◌, ◌++◌, length, map, take, drop, Option, Some, None, refl, sym, ap, subst, ◌∙◌, arith}
use Rattle.std.specs.Prelude.{slice_get, option_map, ◌||◌, if◌then◌else◌}
use Rattle.std.specs.List.{filter_map, cons_option}
use Rattle.std.specs.Str.{bytes_eq}
use Rattle.std.proofs.lemmas.List.{length-map, take-append-drop}
use Rattle.std.proofs.lemmas.Option.{slice_get-map, slice_get_within}
use Rattle.omf_format.specs.File.{Segment}
use Rattle.omf_format.specs.Header.{HeaderFields, alignment_of}
use Rattle.omf_header.specs.View.{fields}
use Rattle.link_meaning.specs.First.{IsIn}
use Rattle.lib_dict.specs.declared.member.Member as held
use Rattle.link_meaning.specs.Member.{RuntimeFile, LinkSetting, Member, setting_in}
use Rattle.link_meaning.specs.laws.SettingLaws.{one_setting}
use Rattle.link_program.specs.Outside.{IsOutsideOf}
use Rattle.link_meaning.specs.Layout.{in_load, end_from, load_length, load_names, load_of, offset_of, headers_from, load_headers}
use Rattle.link_meaning.specs.laws.Steps.{aligned_from}
use Rattle.link_meaning.specs.laws.LayoutLaws.{aligned_from-least, alignment-some}
use Rattle.link_tables.specs.declared.layout.LoadOffset.{LoadOffset}
use Rattle.link_tables.specs.declared.layout.LinkLayout as laid
use Rattle.link_program.specs.declared.program.ResolvedProgram.{ResolvedProgram}
use Rattle.link_program.specs.Linked.{origin_of, Holds, OriginOf, member_at}
use Rattle.link_program.specs.Files.{segment_in, IsAmong, AllAmong}
use Rattle.link_tables.specs.Laid.{contains_text, AllShort, Laid}
use Rattle.link_program.specs.OfFiles.{IsOfFiles}
use Rattle.link_program.specs.Programs.{runtimes_of, setting_of, member_in, list_of, StandsAt, IsKept, linked_at, header_at}
use Rattle.link_tables.specs.Definitions.{IsOf}
use Rattle.link_tables.specs.declared.definitions.Origin.{Origin}
use Rattle.link_program.specs.declared.program.LinkMember.{LinkMember}
use Rattle.omf_header.specs.declared.header.Header.{Header}
use Rattle.link_tables.proofs.Lists.{in_at, take_more, drop_at}
use Rattle.link_tables.proofs.NameTables.{bytes_same}
use Rattle.link_tables.proofs.LoadNames.{load_number, bytes_refl}
use Rattle.link_tables.proofs.LaidLaws.{name_there}
use Rattle.link_tables.proofs.LayoutFaults.{load_there, length_short}

-- ---- the list

abbrev member_as : LinkSetting → ℕ → ℕ → ℕ → Segment → Member
member_as setting file number from s = record { file = file; number = number; from = from; segment = s; setting = setting }

one_member : (setting : LinkSetting) (files : List (List Segment)) (m : Member) → IsAmong files m → m.setting ≡ setting → member_in setting files (origin_of m) ≡ Some m
one_member setting files m among same =
    ap (λ (s : LinkSetting). member_in s files (origin_of m)) (sym same) ∙ ap (option_map (member_as m.setting m.file m.number m.from)) among

listed : (setting : LinkSetting) (files : List (List Segment)) (list : List Member) → AllAmong files list → ((m : Member) → IsIn list m → m.setting ≡ setting) → filter_map (member_in setting files) (map origin_of list) ≡ list
listed setting files [] among each = refl
listed setting files (m ∷ list) among each =
    front (member_in setting files (origin_of m)) (one_member setting files m (among m (inl refl)) (each m (inl refl)))
    ∙ ap (λ (l : List Member). m ∷ l) (listed setting files list (λ n is. among n (inr is)) (λ n is. each n (inr is)))
  where
    front : (o : Option Member) → o ≡ Some m → cons_option o (filter_map (member_in setting files) (map origin_of list)) ≡ m ∷ filter_map (member_in setting files) (map origin_of list)
    front None e = absurd cc
    front (Some x) e = let same : x ≡ m = cc in ap (λ (y : Member). y ∷ filter_map (member_in setting files) (map origin_of list)) same

-- all members of a list of files have its setting
each_setting : (list : List Member) (is : IsOfFiles list) (m : Member) → IsIn list m → m.setting ≡ setting_in list
each_setting [] is m in' = absurd in'
each_setting (x ∷ list) is m in' =
    one_setting is.given (x ∷ list) is.resolved.program m in' ∙ sym (one_setting is.given (x ∷ list) is.resolved.program x (inl refl))

pub list_is : (list : List Member) (kept : ResolvedProgram) → IsKept list kept → list_of kept ≡ list
list_is list kept is =
    ap (filter_map (member_in (setting_of kept) kept.files.items)) is.holds.members
    ∙ listed (setting_of kept) kept.files.items list is.among (λ m in'. each_setting list is.of_files m in' ∙ sym is.setting)

-- ---- offsets

end_grows : (end : ℕ) (x : List ℕ) (list : List Member) → end ≤ end_from end x list
end_grows end x [] = omega arith
end_grows end x (m ∷ list) =
    settle (in_load x m) (end_grows (aligned_from (alignment_of m.segment.fields.align) end + m.segment.fields.length) x list) (end_grows end x list)
  where
    least : end ≤ aligned_from (alignment_of m.segment.fields.align) end
    least = (aligned_from-least end (alignment_of m.segment.fields.align) (alignment-some m.segment.fields.align)).not_below

    settle : (b : Bool) → aligned_from (alignment_of m.segment.fields.align) end + m.segment.fields.length ≤ end_from (aligned_from (alignment_of m.segment.fields.align) end + m.segment.fields.length) x list → end ≤ end_from end x list
        → end ≤ end_from (if b then aligned_from (alignment_of m.segment.fields.align) end + m.segment.fields.length else end) x list
    settle true rest other = omega (arith, rest, least)
    settle false rest other = other

end_from-append : (end : ℕ) (x : List ℕ) (front back : List Member) → end_from end x (front ++ back) ≡ end_from (end_from end x front) x back
end_from-append end x [] back = refl
end_from-append end x (m ∷ front) back = end_from-append (if in_load x m then aligned_from (alignment_of m.segment.fields.align) end + m.segment.fields.length else end) x front back

-- a member starts at or before the end of its load segment
offset_within : (list : List Member) (k : ℕ) (m : Member) → slice_get list k ≡ Some m
    → (end_from 0 m.segment.fields.load_name (take k list) ≤ load_length m.segment.fields.load_name list) × (offset_of list (k + 1) m ≤ load_length m.segment.fields.load_name list)
unfolding load_length offset_of
offset_within list k m at =
    let x = m.segment.fields.load_name in
    let end = end_from 0 x (take k list) in
    let offset = aligned_from (alignment_of m.segment.fields.align) end in
    let whole : end_from 0 x list ≡ end_from end x (m ∷ drop (k + 1) list) =
    ap (end_from 0 x) (sym (take-append-drop k list)) ∙ end_from-append 0 x (take k list) (drop k list) ∙ ap (end_from end x) (drop_at list k m at) in
    let own : end_from end x (m ∷ drop (k + 1) list) ≡ end_from (offset + m.segment.fields.length) x (drop (k + 1) list) =
    ap (λ (b : Bool). end_from (if b then offset + m.segment.fields.length else end) x (drop (k + 1) list)) (bytes_refl x) in
    let rest = end_grows (offset + m.segment.fields.length) x (drop (k + 1) list) in
    let least = (aligned_from-least end (alignment_of m.segment.fields.align) (alignment-some m.segment.fields.align)).not_below in
    let less : k + 1 - 1 ≡ k = omega arith in
    let same : aligned_from (alignment_of m.segment.fields.align) (end_from 0 x (take (k + 1 - 1) list)) ≡ offset = ap (λ (n : ℕ). aligned_from (alignment_of m.segment.fields.align) (end_from 0 x (take n list))) less in
    (omega (arith, whole, own, rest, least), omega (arith, whole, own, rest, least, same))

record HasIndex (x : List ℕ) (xs : List (List ℕ)) : Type 0 where
  i : ℕ
  at : slice_get xs i ≡ Some x

has_index : (x : List ℕ) (xs : List (List ℕ)) → contains_text x xs ≡ true → HasIndex x xs
has_index x [] e = let clash : false ≡ true = e in absurd cc
has_index x (y ∷ xs) e = settle (bytes_eq y x) refl e (λ more. has_index x xs more)
  where
    some : List ℕ → Option (List ℕ)
    some z = Some z

    settle : (b : Bool) → bytes_eq y x ≡ b → (b || contains_text x xs) ≡ true → (contains_text x xs ≡ true → HasIndex x xs) → HasIndex x (y ∷ xs)
    settle true is e go = record { i = 0; at = ap some (bytes_same y x is) }
    settle false is e go = let rest = go e in record { i = suc rest.i; at = rest.at }

stands_at : (list : List Member) (layout : laid.LinkLayout) (k : ℕ) (m : Member) (place : LoadOffset) → Laid list layout → AllShort layout.loads.items → length (load_names list) ≤ 254 → slice_get list k ≡ Some m → slice_get layout.places.items k ≡ Some place → StandsAt list k m place
unfolding load_of
stands_at list layout k m place laid short few at there =
    let x = m.segment.fields.load_name in
    let is = laid.places k m place at there in
    let index = has_index x (load_names list) (name_there list m k at) in
    let load = load_there list layout index.i x laid index.at in
    let number = load_number list index.i x index.at in
    let within = slice_get_within (load_names list) index.i x index.at in
    let ends = offset_within list k m at in
    let kept = length_short list load.load (laid.loads index.i load.load load.at) (short index.i load.load load.at) in
    let most = (laid.loads index.i load.load load.at).length' in
    let whole : load.load.length ≡ load_length x list = kept ∙ ap (λ (y : List ℕ). load_length y list) load.name in
    let offset = is.offset (omega (arith, ends.0, whole, most)) in
    record {
      load = is.load;
      few = omega (arith, is.load, number, within, few);
      offset = offset;
      small = omega (arith, offset, ends.1, whole, most);
    }

headers-from-length : (list : List Member) (n : ℕ) (names : List (List ℕ)) → length (headers_from list n names) ≡ length names
headers-from-length list n [] = refl
headers-from-length list n (x ∷ names) = ap suc (headers-from-length list (n + 1) names)

headers-length : (list : List Member) → length (load_headers list) ≡ length (load_names list)
unfolding load_headers
headers-length list = headers-from-length list 1 (load_names list)

pub kept_is : (list : List Member) (kept : ResolvedProgram) (layout : laid.LinkLayout) → Holds list kept.linked → AllAmong kept.files.items list → length list < 2 ^ 32 → Laid list layout → AllShort layout.loads.items
    → length (load_names list) ≤ 254 → kept.places.items ≡ layout.places.items → map fields kept.headers.items ≡ load_headers list → setting_of kept ≡ setting_in list → IsOutsideOf list kept.outside
    → length kept.runtimes.items ≡ length kept.given.now → length kept.given.now < 2 ^ 32 → IsOfFiles list → IsKept list kept
kept_is list kept layout holds among short laid lengths few places headers setting table read few_runtimes of_files = record {
  holds = holds;
  among = among;
  few = short;
  loads = omega (arith, few, ap length headers, length-map kept.headers.items fields, headers-length list);
  count = ap length places ∙ laid.count;
  places = λ k m place at there. stands_at list layout k m place laid lengths few at (ap (λ (l : List LoadOffset). slice_get l k) (sym places) ∙ there);
  headers = headers;
  setting = setting;
  table = table;
  read = read;
  few_runtimes = few_runtimes;
  of_files = of_files;
}

-- ---- look-ups

abbrev some : {A : Type 0} → A → Option A
some x = Some x

pub header_found : (headers : List Header) (fs : List HeaderFields) (segment : ℕ) (h : Header) → map fields headers ≡ fs → (segment ≡ 0 → ⊥) → slice_get headers (segment - 1) ≡ Some h → Some (fields h) ≡ header_at fs segment
header_found headers fs zero h are some at = absurd (some refl)
header_found headers fs (suc k) h are some' at =
    let less : suc k - 1 ≡ k = omega arith in
    sym (ap (λ (l : List HeaderFields). slice_get l k) (sym are) ∙ slice_get-map fields headers k ∙ ap (option_map fields) (ap (slice_get headers) (sym less) ∙ at))

pub header_none : (headers : List Header) (fs : List HeaderFields) (segment : ℕ) → map fields headers ≡ fs → (segment ≡ 0 → ⊥) → slice_get headers (segment - 1) ≡ None → None ≡ header_at fs segment
header_none headers fs zero are some at = absurd (some refl)
header_none headers fs (suc k) are some' at =
    let less : suc k - 1 ≡ k = omega arith in
    sym (ap (λ (l : List HeaderFields). slice_get l k) (sym are) ∙ slice_get-map fields headers k ∙ ap (option_map fields) (ap (slice_get headers) (sym less) ∙ at))

-- the member whose origin was returned
pub record IsReported (list : List Member) (place : ℕ) (origin : Origin) : Type 0 where
  pub k : ℕ
  pub place' : place ≡ suc k
  pub member : Member
  pub at : slice_get list k ≡ Some member
  pub of : IsOf member origin

pub reported_at : (list : List Member) (place : ℕ) (answer : Option Origin) (origin : Origin) → OriginOf (member_at list place) answer → answer ≡ Some origin → IsReported list place origin
reported_at list zero answer origin reported is = absurd (subst (OriginOf None) is reported)
reported_at list (suc k) answer origin reported is = settle (slice_get list k) refl (subst (OriginOf (slice_get list k)) is reported)
  where
    settle : (o : Option Member) → slice_get list k ≡ o → OriginOf o (Some origin) → IsReported list (suc k) origin
    settle None e of = absurd of
    settle (Some m) e of = record { k = k; place' = refl; member = m; at = e; of = of }

-- what a view shows is the member's segment
pub segment_reported : (files : List (List Segment)) (list : List Member) (place : ℕ) (origin : Origin) (reported : IsReported list place origin) → AllAmong files list → segment_in files origin.file origin.segment ≡ Some reported.member.segment
segment_reported files list place origin reported among =
    ap (λ (n : ℕ). segment_in files n origin.segment) (sym reported.of.0) ∙ ap (λ (n : ℕ). segment_in files reported.member.file n) (sym reported.of.1) ∙ among reported.member (in_at list reported.k reported.member reported.at)

pub member_reported : (list : List Member) (place : ℕ) (origin : Origin) (reported : IsReported list place origin) → member_at list place ≡ Some reported.member
member_reported list place origin reported = ap (member_at list) reported.place' ∙ reported.at

pub linked_reported : (list : List Member) (place : ℕ) (origin : Origin) (reported : IsReported list place origin) (stands : LoadOffset) → StandsAt list reported.k reported.member stands
    → Some (record { file = origin.file; segment = origin.segment; load_segment = stands.load + 1; offset = stands.offset }) ≡ linked_at list place
linked_reported list place origin reported stands at =
    let same : reported.k + 1 ≡ place = omega (arith, reported.place') in
    ap (λ (n : ℕ). by n origin.segment (stands.load + 1) stands.offset) (sym reported.of.0)
    ∙ ap (λ (n : ℕ). by reported.member.file n (stands.load + 1) stands.offset) (sym reported.of.1)
    ∙ ap (λ (n : ℕ). by reported.member.file reported.member.number n stands.offset) at.load
    ∙ ap (λ (n : ℕ). by reported.member.file reported.member.number (load_of list reported.member) n) (at.offset ∙ ap (λ (n : ℕ). offset_of list n reported.member) same)
    ∙ sym (ap (option_map (λ (m : Member). linked m)) (member_reported list place origin reported))
  where
    by : ℕ → ℕ → ℕ → ℕ → Option LinkMember
    by file segment load offset = Some (record { file = file; segment = segment; load_segment = load; offset = offset })

    linked : Member → LinkMember
    linked m = record { file = m.file; segment = m.number; load_segment = load_of list m; offset = offset_of list place m }

segment_same : (a b : Segment) → Some a ≡ Some b → a ≡ b
segment_same a b e = cc

-- the segment that was looked up is the member's
pub view_reported : (files : List (List Segment)) (list : List Member) (place : ℕ) (origin : Origin) (reported : IsReported list place origin) (s : Segment) → AllAmong files list → Some s ≡ segment_in files origin.file origin.segment → reported.member.segment ≡ s
view_reported files list place origin reported s among is = segment_same reported.member.segment s (sym (segment_reported files list place origin reported among) ∙ sym is)

pub no_view : (files : List (List Segment)) (list : List Member) (place : ℕ) (origin : Origin) (reported : IsReported list place origin) → AllAmong files list → None ≡ segment_in files origin.file origin.segment → ⊥
no_view files list place origin reported among is =
    let clash : None ≡ some reported.member.segment = is ∙ segment_reported files list place origin reported among in
    cc

pub laid_more : (files : List (List Segment)) (list : List Member) (k : ℕ) (origin : Origin) (s : Segment) (old new : laid.LinkLayout) (reported : IsReported list (k + 1) origin) → AllAmong files list → Some s ≡ segment_in files origin.file origin.segment → Laid (take k list) old
    → ((before : List Member) (m : Member) → IsOf m origin → m.segment ≡ s → Laid before old → Laid (before ++ m ∷ []) new) → Laid (take (k + 1) list) new
laid_more files list k origin s old new reported among is laid add =
    let same : reported.k ≡ k = omega (arith, reported.place') in
    let at : slice_get list k ≡ Some reported.member = ap (slice_get list) (sym same) ∙ reported.at in
    subst (λ (l : List Member). Laid l new) (sym (take_more list k reported.member at)) (add (take k list) reported.member reported.of (view_reported files list (k + 1) origin reported s among is) laid)

-- ---- run-time library files

pub runtimes_count : (loads : List (List Segment)) (given : List held.Member) → length loads ≡ length given → length (runtimes_of loads given) ≡ length loads
runtimes_count [] given e = refl
runtimes_count (s ∷ loads) [] e = absurd cc
runtimes_count (s ∷ loads) (one ∷ given) e = let less : length loads ≡ length given = omega (arith, e) in ap suc (runtimes_count loads given less)

pub segments_at : (loads : List (List Segment)) (given : List held.Member) (k : ℕ) → length loads ≡ length given → option_map (λ (r : RuntimeFile). r.segments) (slice_get (runtimes_of loads given) k) ≡ slice_get loads k
segments_at [] given k e = refl
segments_at (s ∷ loads) [] k e = absurd cc
segments_at (s ∷ loads) (one ∷ given) zero e = refl
segments_at (s ∷ loads) (one ∷ given) (suc k) e = let less : length loads ≡ length given = omega (arith, e) in segments_at loads given k less

pub path_at : (loads : List (List Segment)) (given : List held.Member) (k : ℕ) → length loads ≡ length given
    → option_map (λ (r : RuntimeFile). r.path) (slice_get (runtimes_of loads given) k) ≡ option_map (λ (m : held.Member). m.name) (slice_get given k)
path_at [] [] k e = refl
path_at [] (one ∷ given) k e = absurd cc
path_at (s ∷ loads) [] k e = absurd cc
path_at (s ∷ loads) (one ∷ given) zero e = refl
path_at (s ∷ loads) (one ∷ given) (suc k) e = let less : length loads ≡ length given = omega (arith, e) in path_at loads given k less
