use Rattle.std.proofs.Common.{◌≡◌, map, take}
use Rattle.std.specs.Char.{to_ascii_uppercase}
use Rattle.orca_text.proofs.operand_tokens.to_upper_case.Given as goal

abbrev pub invariant-bytes : goal.invariant-bytes
invariant-bytes l = l.name.items ≡ map to_ascii_uppercase (take l.byte-index l.text.bytes.now)
