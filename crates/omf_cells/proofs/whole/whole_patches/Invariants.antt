use Rattle.std.proofs.Common.{◌≡◌, map, take}
use Rattle.load_content.specs.Content.{spread_all, shown_spots}
use Rattle.load_writer.specs.WrittenParts.{seen}
use Rattle.omf_cells.proofs.whole.whole_patches.Given as goal

-- the patches so far give the bytes of the spots so far
abbrev pub invariant-spots : goal.invariant-spots
invariant-spots l = spread_all (map seen l.patches.items) ≡ shown_spots (take l.spot-index l.spots)
