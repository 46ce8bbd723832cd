use Rattle.std.proofs.Common.{◌≡◌, drop, length}
use Rattle.load_content.specs.Content.{shown_spots, AreBelow, with_cells}
use Rattle.load_content.specs.Places.{address_in}
use Rattle.load_content.proofs.spots.write_spots.Given as goal

-- with the spots that are left they are all written
abbrev pub invariant-spots : goal.invariant-spots
invariant-spots l = record {
  below : AreBelow (length l.out) (shown_spots (drop l.spot-index l.spots));
  whole : with_cells (address_in l.places) (shown_spots (drop l.spot-index l.spots)) l.out ≡ with_cells (address_in l.places) (shown_spots l.spots) l.initial.out;
}
