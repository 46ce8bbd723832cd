use Rattle.std.proofs.Common.{◌≡◌, ◌++◌, ◌^◌, drop}
use Rattle.std.specs.List.{AllByRecursion}
use Rattle.load_content.specs.Content.{shown_spots, AreBelow, IsSingle}
use Rattle.load_content.proofs.order.bytes_of.Given as goal

-- with the spots that are left they are all bytes
abbrev pub invariant-spots : goal.invariant-spots
invariant-spots l = record {
  below : AreBelow (2 ^ 32) (shown_spots (drop l.spot-index l.spots));
  single : AllByRecursion IsSingle l.bytes.items;
  whole : shown_spots l.bytes.items ++ shown_spots (drop l.spot-index l.spots) ≡ shown_spots l.spots;
}
