use Rattle.script_text.proofs.Digits.{HasRead}
use Rattle.script_text.proofs.numbers.hex_number.Given as goal

abbrev pub invariant-digits : goal.invariant-digits
invariant-digits l = HasRead l.word l.byte-index l.value
