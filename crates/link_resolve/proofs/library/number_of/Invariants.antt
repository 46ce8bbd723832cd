use Rattle.std.proofs.Common.{◌-◌}
use Rattle.link_resolve.proofs.LibraryLaws.{IsBetween}
use Rattle.link_resolve.proofs.library.number_of.Given as goal

-- a segment that starts there is still between the two
abbrev pub invariant-search : goal.invariant-search
invariant-search l = IsBetween l.list l.at l.low l.high

abbrev pub decreases-search : goal.decreases-search
decreases-search l = l.high - l.low
