use Rattle.std.proofs.Common.{length}
use Rattle.orca_text.proofs.Digits.{HasDigits}
use Rattle.orca_text.proofs.tokens.digits_at.Given as goal

abbrev pub invariant-digits : goal.invariant-digits
invariant-digits l = HasDigits l.base l.text l.left l.value

abbrev pub decreases-digits : goal.decreases-digits
decreases-digits l = length l.left
