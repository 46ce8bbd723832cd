-- The list of a file's segments so far.
use Rattle.std.proofs.Common.{◌≡◌, ℕ, zero, suc, ◌+◌, ◌-◌, ◌*◌, ◌^◌, ◌<◌, ◌≤◌, List, [], ◌∷◌, ◌++◌, length, map, All, Some, None, refl, sym, ap, subst, ◌∙◌, arith}
use Rattle.std.specs.Prelude.{slice_get, option_map}
use Rattle.std.proofs.lemmas.Option.{slice_get-map}
use Rattle.std.proofs.lemmas.List.{map-append, length-append, length-map}
use Rattle.std.proofs.lemmas.List.Elements.{All-push, All-weaker}
use Rattle.omf_format.specs.declared.fault.FileFault.{FileFault}
use Rattle.omf_format.specs.declared.fault.FileCause.{FileCause}
use Rattle.omf_format.specs.declared.fault.FileCause.TheVariants as cause
use Rattle.omf_format.specs.File.{Segment, IsSegment, AreSegments, IsFile, segment_at, HasFault, IsFirstFault}
use Rattle.omf_format.specs.laws.FileLaws.{LiesIn, header_lies, AreSegments-append, segments_fit}
use Rattle.omf_records.specs.declared.segment.SegmentView.{SegmentView}
use Rattle.omf_records.specs.Segments.{placed_view, segment_of_view, IsSound, IsView, FitsViews, UnlessMemory, IsSegmentFault, IsRefused}

-- these views are the segments from the file's start up to this displacement
pub record Listed (file : List ℕ) (views : List SegmentView) (start number : ℕ) : Type 0 where
  pub are : AreSegments (map segment_of_view views) 0 file start
  pub count : number ≡ length views + 1
  pub each : All (IsView file) views
  pub within : start ≤ length file

pub view_lies : (file : List ℕ) (v : SegmentView) → IsView file v → LiesIn v.start (placed_view v).fields file
view_lies file v is = header_lies v.start (placed_view v).fields file is.segment.header

-- one segment more
pub listed_more : (file : List ℕ) (views : List SegmentView) (v : SegmentView) (start number : ℕ) → Listed file views start number → v.start ≡ start → IsView file v → start < length file
    → Listed file (views ++ v ∷ []) (start + v.header.byte_count) (number + 1)
listed_more file views v start number listed at is more =
    let lies = view_lies file v is in
    let one : AreSegments (segment_of_view v ∷ []) start file (start + v.header.byte_count) = (at, more, is.segment, refl) in
    let whole : map segment_of_view (views ++ v ∷ []) ≡ map segment_of_view views ++ segment_of_view v ∷ [] = map-append segment_of_view views (v ∷ []) in
    record {
      are = subst (λ (l : List Segment). AreSegments l 0 file (start + v.header.byte_count)) (sym whole) (AreSegments-append (map segment_of_view views) (segment_of_view v ∷ []) 0 file start (start + v.header.byte_count) listed.are one);
      count = omega (arith, length-append views (v ∷ []), listed.count);
      each = All-push (IsView file) views v listed.each is;
      within = omega (arith, lies.within, at);
    }

-- as many segments as fit the file
pub few_listed : (file : List ℕ) (views : List SegmentView) (start number : ℕ) → Listed file views start number → 10 * number ≤ start + 10
few_listed file views start number listed = omega (arith, segments_fit (map segment_of_view views) 0 file start listed.are, length-map views segment_of_view, listed.count)

-- a view of a file that is short enough is sound
pub view_sound : (file : List ℕ) (v : SegmentView) → length file < 2 ^ 32 → IsView file v → IsSound v
view_sound file v short is =
    let segment : IsSegment (segment_of_view v) v.file.now = subst (IsSegment (segment_of_view v)) (sym is.file') is.segment in
    record { placed' = record { short = omega (arith, ap length is.file', short); header = segment.header }; segment = segment }

each_sound : (file : List ℕ) (views : List SegmentView) → length file < 2 ^ 32 → All (IsView file) views → All IsSound views
each_sound file views short each = All-weaker (IsView file) IsSound (λ v is. view_sound file v short is) views each

-- where the file ends, the views are those of its segments
pub views_fit : (file : List ℕ) (views : List SegmentView) (start number : ℕ) → length file < 2 ^ 32 → Listed file views start number → FitsViews views
views_fit file views start number short listed =
    record { few = omega (arith, few_listed file views start number listed, listed.within, listed.count); each = each_sound file views short listed.each }

pub is_file : (file : List ℕ) (views : List SegmentView) (start number : ℕ) → Listed file views start number → length file ≤ start → IsFile (map segment_of_view views) file
is_file file views start number listed end =
    let same : start ≡ length file = omega (arith, listed.within) in
    subst (AreSegments (map segment_of_view views) 0 file) same listed.are

-- a fault other than out of memory is that of what follows from it
unless_then : (c : FileCause) (fault : FileFault) (P Q : Type 0) → (P → Q) → UnlessMemory c fault P → UnlessMemory c fault Q
unless_then cause.Memory fault P Q f h = h
unless_then cause.Truncated fault P Q f h = f h
unless_then cause.BadHeader fault P Q f h = f h
unless_then cause.Unsupported fault P Q f h = f h
unless_then cause.BadRecord fault P Q f h = f h

-- a segment at fault after the others has the file's first fault
pub refused : (file : List ℕ) (views : List SegmentView) (fault : FileFault) (start number : ℕ) → Listed file views start number → start < length file → IsSegmentFault fault number start file → IsRefused fault file
refused file views fault start number listed more is = unless_then fault.cause fault _ (IsFirstFault file fault) first is
  where
    first : (fault.segment ≡ number) × HasFault start file (fault.cause, fault.at) → IsFirstFault file fault
    first h = record {
      before = map segment_of_view views;
      at = start;
      sound = listed.are;
      more = more;
      number = omega (arith, h.0, listed.count, length-map views segment_of_view);
      here = h.1;
    }

-- ---- the segments by their places

pub at_none : (views : List SegmentView) (place : ℕ) → (0 < place → slice_get views (place - 1) ≡ None) → segment_at (map segment_of_view views) place ≡ None
at_none views zero none = refl
at_none views (suc k) none =
    let same : suc k - 1 ≡ k = omega arith in
    slice_get-map segment_of_view views k ∙ ap (option_map segment_of_view) (ap (slice_get views) (sym same) ∙ none (omega arith))

pub at_some : (views : List SegmentView) (place : ℕ) (v : SegmentView) → 0 < place → slice_get views (place - 1) ≡ Some v → segment_at (map segment_of_view views) place ≡ Some (segment_of_view v)
at_some views zero v more is = absurd (omega arith)
at_some views (suc k) v more is =
    let same : suc k - 1 ≡ k = omega arith in
    slice_get-map segment_of_view views k ∙ ap (option_map segment_of_view) (ap (slice_get views) (sym same) ∙ is)
