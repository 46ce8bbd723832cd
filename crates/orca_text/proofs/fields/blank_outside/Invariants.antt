use Rattle.std.proofs.Common.{◌≡◌, ◌+◌, drop}
use Rattle.std.specs.Prelude.{None}
use Rattle.orca_meaning.specs.Characters.{is_blank}
use Rattle.orca_meaning.specs.Quotes.{outside_from}
use Rattle.orca_text.proofs.fields.blank_outside.Given as goal

abbrev pub invariant-bytes : goal.invariant-bytes
invariant-bytes l =
    (l.count + outside_from is_blank l.quote (drop l.byte-index l.rest) ≡ outside_from is_blank None l.rest) × (l.count ≡ l.byte-index)
