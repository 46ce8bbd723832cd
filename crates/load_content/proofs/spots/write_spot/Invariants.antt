use Rattle.std.proofs.Common.{◌≡◌, ◌+◌, ◌-◌, ◌/◌, ◌^◌, ◌≤◌, length}
use Rattle.omf_format.specs.Value.{wrapped_to_32_bits, shifted_bits}
use Rattle.load_content.specs.Content.{spot_patch, spread_from, spread_spot, AreBelow, with_cells}
use Rattle.load_content.specs.Places.{address_in}
use Rattle.load_content.proofs.spots.write_spot.Given as goal

-- with the bytes that are left the spot is written
abbrev pub invariant-bytes : goal.invariant-bytes
invariant-bytes l = record {
  at : l.at ≡ l.spot.at + (l.index - l.spot.first);
  from : l.spot.first ≤ l.index;
  left : l.left ≡ shifted_bits (wrapped_to_32_bits (address_in l.places l.spot.segment + l.spot.offset)) l.spot.shift / 256 ^ l.index;
  below : AreBelow (length l.out) (spread_from (spot_patch l.spot) l.at l.index (l.spot.end - l.index));
  whole : with_cells (address_in l.places) (spread_from (spot_patch l.spot) l.at l.index (l.spot.end - l.index)) l.out ≡ with_cells (address_in l.places) (spread_spot l.spot) l.initial.out;
}

abbrev pub decreases-bytes : goal.decreases-bytes
decreases-bytes l = l.spot.end - l.index
