use Rattle.omf_base.proofs.Hex.{HoldsDigits}
use Rattle.omf_base.proofs.line.hex_places.Given as goal

abbrev pub invariant-digits : goal.invariant-digits
invariant-digits l = HoldsDigits l.value l.places l.from l.rest

abbrev pub decreases-digits : goal.decreases-digits
decreases-digits l = l.rest
