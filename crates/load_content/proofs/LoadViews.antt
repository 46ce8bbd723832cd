-- The views of a load file, and the segments that they show.
use Rattle.std.proofs.Common.{◌≡◌, ℕ, zero, suc, ◌+◌, ◌<◌, ◌≤◌, List, [], ◌∷◌, length, drop, map, get_or, Option, Some, None, refl, sym, ap, ◌∙◌, arith}
use Rattle.std.specs.Prelude.{not, nat_lt, ◌==◌, option_map}
use Rattle.std.specs.Option.{option_or}
use Rattle.std.proofs.Math.Seq.{drop-cons}
use Rattle.load_meaning.specs.declared.load.LoadCause.TheVariants.{Sequence, DataTooLong}
use Rattle.load_meaning.specs.declared.load.LoadFault.{LoadFault}
use Rattle.omf_format.specs.Header.{first_of}
use Rattle.omf_format.specs.Reading.{Reader}
use Rattle.omf_format.specs.File.{Segment, body_reader}
use Rattle.omf_format.specs.Body.{body_bytes}
use Rattle.load_meaning.specs.Loadable.{Fault, first_in, shape_fault}
use Rattle.load_meaning.specs.laws.Steps.{in_segment}
use Rattle.omf_records.specs.declared.segment.SegmentView.{SegmentView}
use Rattle.omf_records.specs.Segments.{placed_view, segment_of_view}
use Rattle.load_content.specs.Walk.{content}
use Rattle.load_content.proofs.ShownBytes.{body_content}

-- ---- phase 2

-- what phase 2 finds in the segment that a view shows
pub shape_fault-of : (number : ℕ) (v : SegmentView) (reader : Reader) → reader ≡ body_reader v.start (placed_view v).fields v.file.now
    → shape_fault number (segment_of_view v) ≡ first_of ((not (v.header.seg_num == number), (Sequence, v.start)) ∷ (nat_lt v.header.length (length (content reader)), (DataTooLong, v.start)) ∷ [])
unfolding shape_fault
shape_fault-of number v reader at =
    let size : length (body_bytes (segment_of_view v)) ≡ length (content reader) = ap length (body_content (placed_view v) ∙ ap content (sym at)) in
    ap (λ (n : ℕ). first_of {F = Fault} ((not (v.header.seg_num == number), (Sequence, v.start)) ∷ (nat_lt v.header.length n, (DataTooLong, v.start)) ∷ [])) size

-- ---- a phase

-- the first fault of the views from one on
abbrev pub found_from : (ℕ → Segment → Option Fault) → ℕ → List SegmentView → Option LoadFault
found_from phase number views = first_in phase number (map segment_of_view views)

-- one view, and then the others
pub found_from-next : (phase : ℕ → Segment → Option Fault) (views : List SegmentView) (i number : ℕ) (v : SegmentView) (fault : Option LoadFault) → i < length views → v ≡ get_or views i v
    → fault ≡ option_map (in_segment number) (phase number (segment_of_view v)) → found_from phase number (drop i views) ≡ option_or fault (found_from phase (number + 1) (drop (suc i) views))
found_from-next phase views i number v fault lt is of =
    ap (found_from phase number) (drop-cons views i v lt)
    ∙ ap (λ (w : SegmentView). found_from phase number (w ∷ drop (suc i) views)) (sym is)
    ∙ ap (λ (o : Option LoadFault). option_or o (found_from phase (number + 1) (drop (suc i) views))) (sym of)

-- after the last view there is none
pub found_from-past : (phase : ℕ → Segment → Option Fault) (views : List SegmentView) (i number : ℕ) → length views ≤ i → found_from phase number (drop i views) ≡ None
found_from-past phase views i number past = ap (found_from phase number) (drop-past i views past)
  where
    drop-past : (k : ℕ) (xs : List SegmentView) → length xs ≤ k → drop k xs ≡ []
    drop-past zero [] h = refl
    drop-past zero (x ∷ xs) h = absurd (omega arith)
    drop-past (suc k) [] h = refl
    drop-past (suc k) (x ∷ xs) h = drop-past k xs (omega arith)

-- a step of a loop over the views: the first `i` were passed, so the first fault is that of those that are left
pub record Passed (phase : ℕ → Segment → Option Fault) (views : List SegmentView) (i number : ℕ) : Type 0 where
  pub place : number ≡ i + 1
  pub so_far : found_from phase 1 views ≡ found_from phase number (drop i views)

pub passed_none : (phase : ℕ → Segment → Option Fault) (views : List SegmentView) → Passed phase views 0 1
passed_none phase views = record { place = refl; so_far = refl }

pub passed_more : (phase : ℕ → Segment → Option Fault) (views : List SegmentView) (i number : ℕ) (v : SegmentView) (fault : Option LoadFault) → Passed phase views i number → i < length views → v ≡ get_or views i v
    → fault ≡ option_map (in_segment number) (phase number (segment_of_view v)) → fault ≡ None → Passed phase views (i + 1) (number + 1)
passed_more phase views i number v fault p lt is of none =
    let next = found_from-next phase views i number v fault lt is of in
    let step : suc i ≡ i + 1 = omega arith in
    record {
      place = omega (arith, p.place);
      so_far =
          p.so_far ∙ next ∙ ap (λ (o : Option LoadFault). option_or o (found_from phase (number + 1) (drop (suc i) views))) none
          ∙ ap (λ n. found_from phase (number + 1) (drop n views)) step;
    }

pub passed_some : (phase : ℕ → Segment → Option Fault) (views : List SegmentView) (i number : ℕ) (v : SegmentView) (fault : Option LoadFault) (f : LoadFault) → Passed phase views i number → i < length views → v ≡ get_or views i v
    → fault ≡ option_map (in_segment number) (phase number (segment_of_view v)) → fault ≡ Some f → Some f ≡ first_in phase 1 (map segment_of_view views)
passed_some phase views i number v fault f p lt is of some =
    let next = found_from-next phase views i number v fault lt is of in
    sym (p.so_far ∙ next ∙ ap (λ (o : Option LoadFault). option_or o (found_from phase (number + 1) (drop (suc i) views))) some)

pub passed_all : (phase : ℕ → Segment → Option Fault) (views : List SegmentView) (i number : ℕ) → Passed phase views i number → length views ≤ i → None ≡ first_in phase 1 (map segment_of_view views)
passed_all phase views i number p past = sym (p.so_far ∙ found_from-past phase views i number past)
