use Rattle.std.proofs.Common.{◌≡◌, take}
use Rattle.dump_lines.specs.Listing.{listing_from}
use Rattle.dump_lines.proofs.dump.dump_text.Given as goal

-- the segments so far were listed
abbrev pub invariant-segments : goal.invariant-segments
invariant-segments l = l.line ≡ listing_from 1 (take l.place l.list)
