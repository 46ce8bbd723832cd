use Rattle.std.proofs.Common.{◌≡◌, ◌-◌, ◌≤◌, ◌++◌, List, length, take}
use Rattle.std.specs.List.{filter_map}
use Rattle.load_meaning.specs.Exports.{exports_of}
use Rattle.link_meaning.specs.Member.{RuntimeFile}
use Rattle.link_meaning.specs.Search.{FoundDefinition, outside_of}
use Rattle.link_program.specs.Outside.{AreOutside}
use Rattle.link_program.proofs.outside.OutsideNames.add_file.Given as goal

-- the names so far were added
abbrev pub invariant-names : goal.invariant-names
invariant-names l = record {
  within : l.place ≤ length (exports_of l.load);
  added : (fs : List FoundDefinition) (r : RuntimeFile) → r.segments ≡ l.load → AreOutside fs l.initial.self → AreOutside (fs ++ filter_map (outside_of l.file r) (take l.place (exports_of r.segments))) l.self;
}

abbrev pub decreases-names : goal.decreases-names
decreases-names l = length (exports_of l.load) - l.place
