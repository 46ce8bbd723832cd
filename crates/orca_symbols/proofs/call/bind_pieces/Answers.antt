use Rattle.std.proofs.Common.{◌<◌, length, option_copied, arith}
use Rattle.macro_meaning.specs.Pieces.{pieces}
use Rattle.orca_symbols.specs.Calling.{bind}
use Rattle.orca_symbols.specs.Piece.{more_pieces}
use Rattle.orca_symbols.specs.View.{symbols_of}
use Rattle.orca_symbols.proofs.Binds.{all_next, all_end, all_unbound, all_twice, next_reached}
use Rattle.orca_symbols.proofs.call.bind_pieces.Goals as goal

pub returns-in_default-clause-all : goal.returns-in_default-clause-all
returns-in_default-clause-all c =
    all_unbound c.args.parameters.now (pieces 0x2C c.operands.left.now) (more_pieces 0x2C (option_copied c.first_piece.result.1)) c.operands.place c.first_piece.result.0.bytes.now (symbols_of c.operands.symbols) _
    c.first_piece.ensures.pieces (rw c.in_default.is at c.binding.ensures.found) c.operands.invariant.all

pub returns-then-not-branch-clause-all : goal.returns-then-not-branch-clause-all
returns-then-not-branch-clause-all c =
    all_twice c.args.parameters.now (pieces 0x2C c.operands.left.now) (more_pieces 0x2C (option_copied c.first_piece.result.1)) c.operands.place c.first_piece.result.0.bytes.now (bind c.in-Some.found) (symbols_of c.operands.symbols) _
    c.first_piece.ensures.pieces c.in-Some.ensures.found (rw c.if-not-branch.true at c.in_ok-bind_once.ensures) c.operands.invariant.all

pub returns-in_default-following-clause-all : goal.returns-in_default-following-clause-all
returns-in_default-following-clause-all c =
    all_end c.args.parameters.now (pieces 0x2C c.operands.left.now) c.operands.place c.first_piece.result.0.bytes.now (bind c.in-Some.found) (symbols_of c.operands.symbols) (symbols_of c.bind_once.new.symbols) _
    (rw c.in_default-following.is at c.first_piece.ensures.pieces) c.in-Some.ensures.found (rw c.if-not-branch.false at c.in_ok-bind_once.ensures) c.operands.invariant.all

pub returns-in_default-following-clause-reached : goal.returns-in_default-following-clause-reached
returns-in_default-following-clause-reached c =
    next_reached c.args.parameters.now c.operands.place c.first_piece.result.0.bytes.now (bind c.in-Some.found) (symbols_of c.operands.symbols) (symbols_of c.bind_once.new.symbols)
    c.in-Some.ensures.found (rw c.if-not-branch.false at c.in_ok-bind_once.ensures) c.operands.invariant.reached

pub operands-preserved : goal.operands-preserved
operands-preserved c = record {
  all = all_next c.args.parameters.now (pieces 0x2C c.operands.left.now) (pieces 0x2C c.in-Some-following.others.now) c.operands.place c.first_piece.result.0.bytes.now (bind c.in-Some.found) (symbols_of c.operands.symbols) (symbols_of c.bind_once.new.symbols) _
      (rw c.in-Some-following.is at c.first_piece.ensures.pieces) c.in-Some.ensures.found (rw c.if-not-branch.false at c.in_ok-bind_once.ensures) c.operands.invariant.all;
  reached = next_reached c.args.parameters.now c.operands.place c.first_piece.result.0.bytes.now (bind c.in-Some.found) (symbols_of c.operands.symbols) (symbols_of c.bind_once.new.symbols)
      c.in-Some.ensures.found (rw c.if-not-branch.false at c.in_ok-bind_once.ensures) c.operands.invariant.reached;
  short = let less : length c.in-Some-following.others.now < length c.operands.left.now = rw c.in-Some-following.is at c.first_piece.ensures.following in omega (arith, less, c.operands.invariant.short);
}
