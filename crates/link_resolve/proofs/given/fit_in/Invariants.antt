use Rattle.std.proofs.Common.{◌≡◌, ◌+◌, take}
use Rattle.link_resolve.specs.Resolved.{total_size}
use Rattle.link_resolve.proofs.GivenLaws.{bytes_of}
use Rattle.link_resolve.proofs.given.fit_in.Given as goal

-- what is left, and the files so far
abbrev pub invariant-files : goal.invariant-files
invariant-files l = l.left + total_size (take l.member-index (bytes_of l.runtimes.items)) ≡ l.fn.room
