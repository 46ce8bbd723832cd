use Rattle.std.proofs.Common.{◌≡◌, ℕ, ◌-◌, ◌++◌, List, length, replicate, sym, ap, subst, ◌∙◌, arith}
use Rattle.omf_format.specs.Reading.{Reader}
use Rattle.omf_format.specs.File.{Segment, body_reader}
use Rattle.load_meaning.specs.Cells.{segment_bytes}
use Rattle.load_meaning.specs.laws.CellLaws.{length-segment_bytes}
use Rattle.omf_records.specs.declared.segment.SegmentView.{SegmentView}
use Rattle.omf_records.specs.Segments.{placed_view, segment_of_view}
use Rattle.load_content.specs.declared.spots.PatchSpot.{PatchSpot}
use Rattle.load_content.specs.Walk.{content}
use Rattle.load_content.specs.Content.{shown_spots, AreBelow, with_cells}
use Rattle.load_content.specs.Places.{address_in}
use Rattle.omf_cells.specs.Load.{Shows, HasLength}
use Rattle.load_content.proofs.ShownBytes.{bytes-shown}
use Rattle.omf_cells.proofs.LoadShows.{content_fits, has_length, no_length, shown_below, stands-spots, stands-there}
use Rattle.omf_cells.proofs.load.patch_into.Goals as goal

pub write_body-requires-clause-fits : goal.write_body-requires-clause-fits
write_body-requires-clause-fits c =
    let v = c.in-Some.found.0.now in
    let fits = content_fits c.args.load.now c.args.segment v c.records.result c.in-Some.ensures.shows c.records.ensures in
    omega (arith, fits, has_length c.args.load.now c.args.segment (length c.args.out.now) v c.requires c.in-Some.ensures.shows)

pub unreachable-requires : goal.unreachable-requires
unreachable-requires c = no_length c.args.load.now c.args.segment (length c.args.out.now) c.requires c.in-None.ensures

-- what was written before the spots is the data
data_written : (segments : List Segment) (number : ℕ) (v : SegmentView) (reader : Reader) (old out : List ℕ) → Shows segments number v → HasLength segments number (length old) → reader ≡ body_reader v.start (placed_view v).fields v.file.now
    → out ≡ content reader ++ replicate (length old - length (content reader)) 0 → out ≡ segment_bytes (segment_of_view v)
data_written segments number v reader old out is has at e =
    e
    ∙ ap (λ (n : ℕ). content reader ++ replicate (n - length (content reader)) 0) (sym (has_length segments number (length old) v has is))
    ∙ sym (bytes-shown v reader at)

pub write_spots-requires : goal.write_spots-requires
write_spots-requires c =
    let v = c.in-Some.found.0.now in
    let shows = c.in-Some.ensures.shows in
    let data_is : c.write_body.new.out ≡ segment_bytes (segment_of_view v) = data_written c.args.load.now c.args.segment v c.records.result c.args.out.now c.write_body.new.out shows c.requires c.records.ensures c.write_body.ensures in
    let size : length c.write_body.new.out ≡ v.header.length = ap length data_is ∙ length-segment_bytes (segment_of_view v) shows.sound.fits in
    subst (λ (l : List PatchSpot). AreBelow (length c.write_body.new.out) (shown_spots l)) (sym c.deref.ensures.value)
    (subst (λ (n : ℕ). AreBelow n (shown_spots c.in-Some.found.1.now.spots.items)) (sym size) (shown_below c.args.load.now c.args.segment v c.in-Some.found.1.now c.in-Some.ensures))

pub returns : goal.returns
returns c =
    let v = c.in-Some.found.0.now in
    let kept = c.in-Some.found.1.now in
    let segments = c.args.load.now in
    let places = address_in c.args.places.now in
    let data_is : c.write_body.new.out ≡ segment_bytes (segment_of_view v) = data_written segments c.args.segment v c.records.result c.args.out.now c.write_body.new.out c.in-Some.ensures.shows c.requires c.records.ensures c.write_body.ensures in
    let out_is : c.write_spots.new.out ≡ with_cells places (shown_spots kept.spots.items) c.write_body.new.out =
    c.write_spots.ensures ∙ ap (λ (l : List PatchSpot). with_cells places (shown_spots l) c.write_body.new.out) c.deref.ensures.value in
    stands-there segments c.args.segment v c.args.places.now c.write_spots.new.out c.in-Some.ensures.shows
    (stands-spots segments c.args.segment v kept places c.write_body.new.out c.write_spots.new.out c.in-Some.ensures data_is out_is)
