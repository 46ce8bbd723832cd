use Rattle.std.proofs.Common.{◌≡◌, drop, None}
use Rattle.orca_meaning.specs.Quotes.{quote_after}
use Rattle.orca_symbols.proofs.substitution.is_outside.Given as goal

abbrev pub invariant-bytes : goal.invariant-bytes
invariant-bytes l = quote_after l.quote (drop l.byte-index l.front) ≡ quote_after None l.front
