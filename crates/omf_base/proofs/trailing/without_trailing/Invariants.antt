use Rattle.std.proofs.Common.{◌≡◌, ◌≤◌, length, take}
use Rattle.omf_format.specs.Name.{without_trailing}
use Rattle.omf_base.proofs.trailing.without_trailing.Given as goal

-- what was passed over changes nothing
abbrev pub invariant-trim : goal.invariant-trim
invariant-trim l = record {
  within : l.end ≤ length l.bytes;
  same : without_trailing l.byte (take l.end l.bytes) ≡ without_trailing l.byte l.bytes;
}

abbrev pub decreases-trim : goal.decreases-trim
decreases-trim l = l.end
