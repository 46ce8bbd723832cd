use Rattle.std.proofs.Common.{◌≡◌, ◌+◌, ◌*◌, ◌<◌, ◌^◌, length}
use Rattle.omf_format.specs.Super.{locations_left}
use Rattle.omf_records.proofs.locations.next_page.Given as goal

-- what is left has all the locations
abbrev pub invariant-counts : goal.invariant-counts
invariant-counts l = (locations_left l.page 0 l.left ≡ locations_left l.initial.page 0 l.bytes) × (l.page + 128 * length l.left < 2 ^ 48)

abbrev pub decreases-counts : goal.decreases-counts
decreases-counts l = length l.left
