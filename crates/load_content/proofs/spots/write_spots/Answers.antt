use Rattle.std.proofs.Common.{◌≡◌, ℕ, ◌+◌, ◌<◌, List, length, drop, get_or, sym, ap, subst, ◌∙◌}
use Rattle.std.specs.Prelude.{pos}
use Rattle.load_meaning.specs.Cells.{Cell}
use Rattle.load_content.specs.declared.spots.PatchSpot.{PatchSpot}
use Rattle.load_content.specs.Content.{spread_spot, shown_spots, AreBelow, with_cells}
use Rattle.load_content.specs.Places.{address_in}
use Rattle.load_content.proofs.SpotLists.{length-with_cells, with_cells-append, shown-next}
use Rattle.load_content.proofs.Contents.{parts-below}
use Rattle.load_content.proofs.spots.write_spots.Goals as goal

abbrev no_spot : PatchSpot
no_spot = record { at = 0; offset = 0; segment = 0; shift = pos 0; first = 0; end = 0 }

next-below : (spots : List PatchSpot) (i size : ℕ) → i < length spots → AreBelow size (shown_spots (drop i spots)) → AreBelow size (spread_spot (get_or spots i no_spot)) × AreBelow size (shown_spots (drop (i + 1) spots))
next-below spots i size lt below =
    parts-below size (spread_spot (get_or spots i no_spot)) (shown_spots (drop (i + 1) spots)) (subst (AreBelow size) (shown-next spots i no_spot lt) below)

pub write_spot-requires : goal.write_spot-requires
write_spot-requires c = (next-below c.args.spots.now c.spots.spot-index (length c.spots.out) c.spots-test.true c.spots.invariant.below).0

pub spots-preserved : goal.spots-preserved
spots-preserved c =
    let spots = c.args.spots.now in
    let i = c.spots.spot-index in
    let places = address_in c.args.places.now in
    let spot = get_or spots i no_spot in
    let rest = shown_spots (drop (i + 1) spots) in
    let size : length c.write_spot.new.out ≡ length c.spots.out = ap length c.write_spot.ensures ∙ length-with_cells places (spread_spot spot) c.spots.out in
    record {
      below = subst (λ (n : ℕ). AreBelow n rest) (sym size) (next-below spots i (length c.spots.out) c.spots-test.true c.spots.invariant.below).1;
      whole =
          ap (with_cells places rest) c.write_spot.ensures
          ∙ sym (with_cells-append places (spread_spot spot) rest c.spots.out)
          ∙ sym (ap (λ (l : List (ℕ × Cell)). with_cells places l c.spots.out) (shown-next spots i no_spot c.spots-test.true))
          ∙ c.spots.invariant.whole;
    }
