use Rattle.std.proofs.Common.{drop}
use Rattle.orca_operands.proofs.Packed.{FoundLeft}
use Rattle.orca_operands.proofs.digits.digits_in.Given as goal

abbrev pub invariant-bytes : goal.invariant-bytes
invariant-bytes l = FoundLeft l.base l.text l.out.items (drop l.byte-index l.text)
