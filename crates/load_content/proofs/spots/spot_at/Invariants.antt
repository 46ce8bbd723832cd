use Rattle.std.proofs.Common.{◌≡◌, drop}
use Rattle.std.specs.Prelude.{option_map}
use Rattle.std.specs.Option.{option_or}
use Rattle.load_content.specs.Content.{part_of, shown_spots, last_at, AreRuns}
use Rattle.load_content.proofs.spots.spot_at.Given as goal

-- what is found in the runs that are left goes before what was found so far
abbrev pub invariant-runs : goal.invariant-runs
invariant-runs l = record {
  are : AreRuns (drop l.count-index l.runs) l.left;
  whole : option_or (last_at (shown_spots l.left) l.at) (option_map part_of l.found) ≡ last_at (shown_spots l.spots) l.at;
}
