use Rattle.std.proofs.Common.{◌≡◌, ◌+◌, drop}
use Rattle.std.specs.List.{prefix_len}
use Rattle.orca_meaning.specs.Characters.{is_name_byte}
use Rattle.orca_text.proofs.operand_tokens.name_len.Given as goal

abbrev pub invariant-bytes : goal.invariant-bytes
invariant-bytes l = (l.count + prefix_len is_name_byte (drop l.byte-index l.following) ≡ prefix_len is_name_byte l.following) × (l.count ≡ l.byte-index)
