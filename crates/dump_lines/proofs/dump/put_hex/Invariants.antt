use Rattle.std.proofs.Common.{◌≡◌, ◌++◌, take}
use Rattle.dump_lines.specs.Listing.{hex_bytes}
use Rattle.dump_lines.proofs.dump.put_hex.Given as goal

-- the bytes so far were appended
abbrev pub invariant-bytes : goal.invariant-bytes
invariant-bytes l = l.line ≡ l.fn.line ++ hex_bytes (take l.place l.bytes)
