use Rattle.std.proofs.Common.{◌≡◌, ◌∷◌, ◌++◌, take, map}
use Rattle.dump_lines.specs.Steps.{printable_byte}
use Rattle.dump_lines.proofs.dump.put_name.Given as goal

-- the bytes so far were appended
abbrev pub invariant-bytes : goal.invariant-bytes
invariant-bytes l = l.line ≡ l.fn.line ++ (0x20 ∷ map printable_byte (take l.place l.name))
