use Rattle.std.proofs.Common.{◌≡◌, ◌+◌, drop}
use Rattle.orca_symbols.specs.Plain.{plain_len}
use Rattle.orca_symbols.proofs.substitution.plain_len.Given as goal

abbrev pub invariant-bytes : goal.invariant-bytes
invariant-bytes l = (l.count + plain_len (drop l.byte-index l.text) ≡ plain_len l.text) × (l.count ≡ l.byte-index)
