use Rattle.std.proofs.Common.{◌≡◌, ◌++◌, take}
use Rattle.std.specs.List.{flat_map}
use Rattle.loader_machine.specs.laws.Words.{other_text}
use Rattle.loader_replies.proofs.replies.put_others.Given as goal

-- the bytes so far were appended
abbrev pub invariant-bytes : goal.invariant-bytes
invariant-bytes l = l.line ≡ l.fn.line ++ flat_map other_text (take l.place l.bytes)
