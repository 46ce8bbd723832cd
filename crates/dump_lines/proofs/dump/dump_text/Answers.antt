use Rattle.std.proofs.Common.{◌≡◌, ◌+◌, ◌++◌, ℕ, List, take, ap, ◌∙◌, arith}
use Rattle.omf_records.specs.Segments.{segment_of_view}
use Rattle.omf_records.specs.SegmentLaws.{shown_at, none_past}
use Rattle.dump_lines.specs.Listing.{segment_text, listing_from}
use Rattle.dump_lines.proofs.Listings.{listing_more}
use Rattle.dump_lines.proofs.dump.dump_text.Goals as goal

pub segments-preserved : goal.segments-preserved
segments-preserved c =
    let s = segment_of_view c.in-Some.view.now in
    let found = shown_at c.args.list.now c.segments.place c.in-Some.view.now c.in-Some.ensures.value in
    let number : c.segments.place + 1 ≡ 1 + c.segments.place = omega arith in
    c.in_ok-put_segment-in-Some.ensures
    ∙ ap (λ (l : List ℕ). l ++ segment_text (c.segments.place + 1) s) c.segments.invariant
    ∙ ap (λ (n : ℕ). listing_from 1 (take c.segments.place c.args.list.now) ++ segment_text n s) number
    ∙ listing_more 1 c.segments.place c.args.list.now s found

pub unreachable-requires : goal.unreachable-requires
unreachable-requires c = omega (arith, none_past c.args.list.now c.segments.place c.in-None.ensures.value, c.segments-test.true, c.count-place-end.ensures)
