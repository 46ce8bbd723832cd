-- The segments of a load file, as far as they were read.
use Rattle.std.proofs.Common.{◌≡◌, ℕ, ◌+◌, ◌*◌, ◌<◌, ◌≤◌, List, [], ◌∷◌, ◌++◌, length, map, All, None, refl, sym, subst, arith}
use Rattle.std.specs.List.{AllByRecursion}
use Rattle.std.proofs.lemmas.List.{map-append, length-append, length-map}
use Rattle.std.proofs.lemmas.List.Elements.{All-push}
use Rattle.load_meaning.specs.declared.load.LoadFault.{LoadFault}
use Rattle.omf_format.specs.File.{Segment, AreSegments}
use Rattle.omf_format.specs.laws.FileLaws.{LiesIn, header_lies, AreSegments-append, segments_fit}
use Rattle.load_meaning.specs.Loadable.{HasReadFault, IsLoadSegment, later_fault, IsLoadable, IsFirstLoadFault, OfReading}
use Rattle.omf_records.specs.declared.segment.SegmentView.{SegmentView}
use Rattle.omf_records.specs.Segments.{placed_view, segment_of_view}
use Rattle.load_content.specs.Views.{IsLoadView}
use Rattle.omf_cells.specs.Load.{IsRefused, IsReadRefused}
use Rattle.load_content.proofs.NamedFaults.{unless_then}

-- these views are the segments from the file's start up to this displacement, and pass phase 1
pub record Read (file : List ℕ) (views : List SegmentView) (start number : ℕ) : Type 0 where
  pub are : AreSegments (map segment_of_view views) 0 file start
  pub pass : AllByRecursion IsLoadSegment (map segment_of_view views)
  pub each : All (IsLoadView file) views
  pub count : number ≡ length views + 1
  pub within : start ≤ length file

pub view_lies : (file : List ℕ) (v : SegmentView) → IsLoadView file v → LiesIn v.start (placed_view v).fields file
view_lies file v is = header_lies v.start (placed_view v).fields file is.segment.header

all-append : (segments : List Segment) (s : Segment) → AllByRecursion IsLoadSegment segments → IsLoadSegment s → AllByRecursion IsLoadSegment (segments ++ s ∷ [])
all-append [] s all one = (one, tt)
all-append (t ∷ segments) s all one = (all.0, all-append segments s all.1 one)

-- one segment more
pub read_more : (file : List ℕ) (views : List SegmentView) (v : SegmentView) (start number : ℕ) → Read file views start number → v.start ≡ start → start < length file → IsLoadView file v
    → Read file (views ++ v ∷ []) (start + v.header.byte_count) (number + 1)
read_more file views v start number read at more is =
    let lies = view_lies file v is in
    let one : AreSegments (segment_of_view v ∷ []) start file (start + v.header.byte_count) = (at, more, is.segment, refl) in
    let whole : map segment_of_view (views ++ v ∷ []) ≡ map segment_of_view views ++ segment_of_view v ∷ [] = map-append segment_of_view views (v ∷ []) in
    record {
      are = subst (λ (l : List Segment). AreSegments l 0 file (start + v.header.byte_count)) (sym whole) (AreSegments-append (map segment_of_view views) (segment_of_view v ∷ []) 0 file start (start + v.header.byte_count) read.are one);
      pass = subst (AllByRecursion IsLoadSegment) (sym whole) (all-append (map segment_of_view views) (segment_of_view v) read.pass is.pass);
      each = All-push (IsLoadView file) views v read.each is;
      count = omega (arith, length-append views (v ∷ []), read.count);
      within = omega (arith, lies.within, at);
    }

-- all segments up to the file's end are a load file, where no later phase finds a fault
pub read_loadable : (file : List ℕ) (views : List SegmentView) (start number : ℕ) → Read file views start number → length file ≤ start → (length file ≡ 0 → ⊥) → later_fault (map segment_of_view views) ≡ None → IsLoadable file (map segment_of_view views)
read_loadable file views start number read past some none =
    let end : start ≡ length file = omega (arith, read.within, past) in
    record {
      is_file = subst (λ (n : ℕ). AreSegments (map segment_of_view views) 0 file n) end read.are;
      some = λ e. some (let none' : 0 ≡ start = subst (λ (l : List Segment). AreSegments l 0 file start) e read.are in omega (arith, none', end));
      pass = read.pass;
      sound = none;
    }

-- a segment that is refused after the others has the file's first fault
pub refused_in : (file : List ℕ) (views : List SegmentView) (fault : LoadFault) (start number : ℕ) → Read file views start number → start < length file → IsReadRefused fault number start file → IsRefused fault file
refused_in file views fault start number read more is = unless_then fault.cause fault _ (IsFirstLoadFault file fault) first is
  where
    first : (fault.segment ≡ number) × HasReadFault start file (fault.cause, fault.at) → IsFirstLoadFault file fault
    first h = OfReading record {
      before = map segment_of_view views;
      at = start;
      sound = read.are;
      pass = read.pass;
      more = more;
      number = omega (arith, h.0, read.count, length-map views segment_of_view);
      here = h.1;
    }

-- as many segments as fit the file
pub few_read : (file : List ℕ) (views : List SegmentView) (start number : ℕ) → Read file views start number → 10 * number ≤ start + 10
few_read file views start number read = omega (arith, segments_fit (map segment_of_view views) 0 file start read.are, length-map views segment_of_view, read.count)
