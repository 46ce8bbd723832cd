use Rattle.std.proofs.Common.{◌≡◌, ◌+◌, take}
use Rattle.link_resolve.specs.Resolved.{all_bytes, total_size}
use Rattle.link_resolve.proofs.given.room_after.Given as goal

-- what is left, and the files so far
abbrev pub invariant-files : goal.invariant-files
invariant-files l = l.left + total_size (take l.file-index (all_bytes l.inputs.items)) ≡ 0xFFFFFFFF
