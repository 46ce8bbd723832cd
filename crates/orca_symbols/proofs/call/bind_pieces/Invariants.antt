use Rattle.std.proofs.Common.{◌≡◌, ◌≤◌, length}
use Rattle.macro_meaning.specs.Call.{bound_all}
use Rattle.macro_meaning.specs.Pieces.{pieces}
use Rattle.orca_symbols.specs.Calling.{AreBound}
use Rattle.orca_symbols.specs.View.{symbols_of}
use Rattle.orca_symbols.proofs.call.bind_pieces.Given as goal

abbrev pub invariant-operands : goal.invariant-operands
invariant-operands l = record {
  all : bound_all l.parameters l.place (pieces 0x2C l.left) (symbols_of l.symbols) ≡ bound_all l.parameters 0 (pieces 0x2C l.operand.bytes.now) (symbols_of l.fn.symbols);
  reached : AreBound l.parameters l.place (symbols_of l.symbols);
  short : length l.left ≤ 255;
}

abbrev pub decreases-operands : goal.decreases-operands
decreases-operands l = length l.left
