use Rattle.std.proofs.Common.{length}
use Rattle.script_text.proofs.BankNumbers.{HasRead}
use Rattle.script_text.proofs.parsing.bank_numbers.Given as goal

abbrev pub invariant-words : goal.invariant-words
invariant-words l = HasRead l.initial.words l.words l.banks.items

abbrev pub decreases-words : goal.decreases-words
decreases-words l = length l.words
