use Rattle.std.proofs.Common.{◌≡◌, length, drop}
use Rattle.std.specs.Char.{is_digit}
use Rattle.std.specs.List.{prefix_len}
use Rattle.orca_text.proofs.tokens.after_digits.Given as goal

abbrev pub invariant-digits : goal.invariant-digits
invariant-digits l = drop (prefix_len (λ byte. is_digit byte l.base) l.left) l.left ≡ drop (prefix_len (λ byte. is_digit byte l.base) l.text) l.text

abbrev pub decreases-digits : goal.decreases-digits
decreases-digits l = length l.left
