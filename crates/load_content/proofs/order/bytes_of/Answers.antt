use Rattle.std.proofs.Common.{ℕ, ◌+◌, ◌<◌, ◌^◌, List, ◌++◌, length, drop, get_or, sym, ap, subst, ◌∙◌, append_assoc}
use Rattle.std.specs.Prelude.{pos}
use Rattle.load_content.specs.declared.spots.PatchSpot.{PatchSpot}
use Rattle.load_content.specs.Content.{spread_spot, shown_spots, AreBelow}
use Rattle.load_content.proofs.SpotLists.{shown-next}
use Rattle.load_content.proofs.Contents.{parts-below}
use Rattle.load_content.proofs.order.bytes_of.Goals as goal

abbrev no_spot : PatchSpot
no_spot = record { at = 0; offset = 0; segment = 0; shift = pos 0; first = 0; end = 0 }

next-below : (spots : List PatchSpot) (i size : ℕ) → i < length spots → AreBelow size (shown_spots (drop i spots)) → AreBelow size (spread_spot (get_or spots i no_spot)) × AreBelow size (shown_spots (drop (i + 1) spots))
next-below spots i size lt below =
    parts-below size (spread_spot (get_or spots i no_spot)) (shown_spots (drop (i + 1) spots)) (subst (AreBelow size) (shown-next spots i no_spot lt) below)

pub add_bytes-requires : goal.add_bytes-requires
add_bytes-requires c = (next-below c.args.spots.now c.spots.spot-index (2 ^ 32) c.spots-test.true c.spots.invariant.below).0

pub spots-preserved : goal.spots-preserved
spots-preserved c =
    let spots = c.args.spots.now in
    let i = c.spots.spot-index in
    let spot = get_or spots i no_spot in
    let rest = shown_spots (drop (i + 1) spots) in
    let old = c.spots.bytes.items in
    record {
      below = (next-below spots i (2 ^ 32) c.spots-test.true c.spots.invariant.below).1;
      single = c.in_ok-add_bytes.ensures.single c.spots.invariant.single;
      whole =
          ap (λ l. l ++ rest) c.in_ok-add_bytes.ensures.shown'
          ∙ append_assoc (shown_spots old) (spread_spot spot) rest
          ∙ ap (λ l. shown_spots old ++ l) (sym (shown-next spots i no_spot c.spots-test.true))
          ∙ c.spots.invariant.whole;
    }
