use Rattle.std.proofs.Common.{◌≡◌, length}
use Rattle.asm_meaning.specs.Elements.{text_at}
use Rattle.orca_operands.specs.ElementView.{with_bytes}
use Rattle.orca_operands.proofs.element.text_at.Given as goal

abbrev pub invariant-bytes : goal.invariant-bytes
invariant-bytes l = with_bytes l.out.items (text_at l.left) ≡ text_at l.text

abbrev pub decreases-bytes : goal.decreases-bytes
decreases-bytes l = length l.left
