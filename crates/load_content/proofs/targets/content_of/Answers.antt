use Rattle.std.proofs.Common.{◌≡◌, ℕ, ◌++◌, ◌^◌, List, [], Option, Some, None, Ok, map, sym, ap, subst, ◌∙◌, arith}
use Rattle.std.specs.Prelude.{option_map}
use Rattle.omf_format.specs.Reading.{Reader, records_of}
use Rattle.omf_format.specs.File.{Segment}
use Rattle.load_meaning.specs.declared.load.LoadFault.{LoadFault}
use Rattle.load_meaning.specs.Loadable.{first_target_fault, target_fault}
use Rattle.load_meaning.specs.laws.Steps.{in_segment}
use Rattle.omf_records.specs.Segments.{segment_of_view}
use Rattle.load_content.specs.declared.spots.PatchSpot.{PatchSpot}
use Rattle.load_content.specs.Walk.{patches_from}
use Rattle.load_content.specs.Content.{HasPieces, shown_spots, spread_all}
use Rattle.load_content.proofs.NamedFaults.{unless}
use Rattle.load_content.proofs.ShownBytes.{body_fits, has_pieces}
use Rattle.load_content.proofs.Causes.{named_targets}
use Rattle.load_content.proofs.Contents.{patches-below, ordered_spots, no_fault}
use Rattle.load_content.proofs.targets.content_of.Goals as goal

pub pieces_of-requires-clause-fits : goal.pieces_of-requires-clause-fits
pieces_of-requires-clause-fits c = body_fits c.args.number c.args.view.now c.records.result c.requires.sized c.records.ensures

pub take_records-requires-clause-pieces : goal.take_records-requires-clause-pieces
take_records-requires-clause-pieces c =
    subst (HasPieces c.args.view.now) (sym c.deref.ensures.value)
    (has_pieces c.args.number c.args.view.now c.records.result c.in_ok-pieces.pieces.items c.requires.sized c.records.ensures c.in_ok-pieces.ensures.short c.in_ok-pieces.ensures.are)

pub returns-in-Some-clause-refused : goal.returns-in-Some-clause-refused
returns-in-Some-clause-refused c =
    let segments = map segment_of_view c.args.views.now.items in
    let s = segment_of_view c.args.view.now in
    let fault = c.in-Some.fault in
    let first : option_map (in_segment c.args.number) (first_target_fault segments s s.records) ≡ Some fault =
    sym (ap (λ (r : Reader). option_map (in_segment c.args.number) (first_target_fault segments s (records_of r))) c.records-2.ensures) ∙ sym c.in_ok-fault.ensures.value ∙ c.in-Some.is in
    unless fault.cause fault _ (named_targets segments s s.records c.args.number fault first) first

-- what the records of the view's body gave, where none has a fault
none_of : (number : ℕ) (segments : List Segment) (s : Segment) (r : Reader) (fault : Option LoadFault) → records_of r ≡ s.records
    → fault ≡ option_map (in_segment number) (first_target_fault segments s (records_of r)) → fault ≡ None → target_fault segments number s ≡ None
none_of number segments s r fault at is none =
    no_fault number (first_target_fault segments s s.records)
    (ap (λ l. option_map (in_segment number) (first_target_fault segments s l)) (sym at) ∙ sym is ∙ none)

given_of : (s : Segment) (r : Reader) (front spots : List PatchSpot) → records_of r ≡ s.records → front ≡ [] → shown_spots spots ≡ shown_spots front ++ spread_all (patches_from s (records_of r))
    → shown_spots spots ≡ spread_all (patches_from s s.records)
given_of s r front spots at empty is =
    is
    ∙ ap (λ (l : List PatchSpot). shown_spots l ++ spread_all (patches_from s (records_of r))) empty
    ∙ ap (λ l. spread_all (patches_from s l)) at

pub in_order-requires : goal.in_order-requires
in_order-requires c =
    let v = c.args.view.now in
    patches-below (map segment_of_view c.args.views.now.items) c.args.number (2 ^ 32) (segment_of_view v) c.take_records.new.spots.items
    (none_of c.args.number (map segment_of_view c.args.views.now.items) (segment_of_view v) c.records-2.result _ (ap records_of c.records-2.ensures) c.in_ok-fault.ensures.value c.in-None.is)
    (omega (arith, c.in_ok-pieces.ensures.short))
    (given_of (segment_of_view v) c.records-2.result _ c.take_records.new.spots.items (ap records_of c.records-2.ensures) c.new-spots.ensures.items (c.in_ok-fault.ensures.spots (ap (λ o. Ok o) c.in-None.is)))

pub returns-clause-ok : goal.returns-clause-ok
returns-clause-ok c =
    let v = c.args.view.now in (
      none_of c.args.number (map segment_of_view c.args.views.now.items) (segment_of_view v) c.records-2.result _ (ap records_of c.records-2.ensures) c.in_ok-fault.ensures.value c.in-None.is,
      record {
        pieces = has_pieces c.args.number v c.records.result c.in_ok-pieces.pieces.items c.requires.sized c.records.ensures c.in_ok-pieces.ensures.short c.in_ok-pieces.ensures.are;
        spots = ordered_spots (segment_of_view v) c.take_records.new.spots.items _ _
            (given_of (segment_of_view v) c.records-2.result _ c.take_records.new.spots.items (ap records_of c.records-2.ensures) c.new-spots.ensures.items (c.in_ok-fault.ensures.spots (ap (λ o. Ok o) c.in-None.is)))
            c.in_ok-spots.ensures.runs c.in_ok-spots.ensures.last;
      },
    )
