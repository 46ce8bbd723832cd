use Rattle.std.proofs.Common.{◌≡◌, ◌-◌, ◌++◌, ◌^◌}
use Rattle.std.specs.List.{AllByRecursion}
use Rattle.load_content.specs.Content.{spot_patch, spread_from, spread_spot, shown_spots, AreBelow, IsSingle}
use Rattle.load_content.proofs.order.add_bytes.Given as goal

-- with the bytes that are left they are all bytes of the spot
abbrev pub invariant-bytes : goal.invariant-bytes
invariant-bytes l = record {
  below : AreBelow (2 ^ 32) (spread_from (spot_patch l.spot) l.at l.index (l.spot.end - l.index));
  single : AllByRecursion IsSingle l.initial.bytes.items → AllByRecursion IsSingle l.bytes.items;
  whole : shown_spots l.bytes.items ++ spread_from (spot_patch l.spot) l.at l.index (l.spot.end - l.index) ≡ shown_spots l.initial.bytes.items ++ spread_spot l.spot;
}

abbrev pub decreases-bytes : goal.decreases-bytes
decreases-bytes l = l.spot.end - l.index
