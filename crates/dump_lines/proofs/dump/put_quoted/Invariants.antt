use Rattle.std.proofs.Common.{◌≡◌, ◌∷◌, ◌++◌, take, map}
use Rattle.dump_lines.specs.Steps.{quoted_byte}
use Rattle.dump_lines.proofs.dump.put_quoted.Given as goal

-- the bytes so far were appended
abbrev pub invariant-bytes : goal.invariant-bytes
invariant-bytes l = l.line ≡ l.fn.line ++ (0x22 ∷ map quoted_byte (take l.place l.name))
