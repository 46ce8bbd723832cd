use Rattle.std.proofs.Common.{◌≡◌, ◌++◌, map, drop}
use Rattle.asm_meaning.specs.laws.Steps.{text_byte}
use Rattle.orca_operands.proofs.dc.marked_bytes.Given as goal

abbrev pub invariant-bytes : goal.invariant-bytes
invariant-bytes l = l.out.items ++ map (text_byte l.msb) (drop l.byte-index l.bytes) ≡ map (text_byte l.msb) l.bytes
