use Rattle.std.proofs.Common.{◌-◌, ◌≤◌, map}
use Rattle.load_writer.specs.WrittenParts.{seen}
use Rattle.omf_compact.proofs.PartWalks.{Walked}
use Rattle.omf_compact.proofs.parting.part_cells.Given as goal

-- the cells so far have these patches
abbrev pub invariant-cells : goal.invariant-cells
invariant-cells l = record {
  walked : Walked l.load l.number l.at (map seen l.patches.items);
  inside : l.at ≤ l.end;
}

abbrev pub decreases-cells : goal.decreases-cells
decreases-cells l = l.end - l.at
