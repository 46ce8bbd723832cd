use Rattle.std.proofs.Common.{ap, sym, ◌∙◌}
use Rattle.macro_meaning.specs.Pieces.{unquoted_text}
use Rattle.orca_symbols.proofs.Parted.{join_next, get_inside}
use Rattle.orca_symbols.proofs.operands.join_quoted.Goals as goal

pub pieces-preserved : goal.pieces-preserved
pieces-preserved c =
    let found = ap unquoted_text (sym c.part.ensures) ∙ c.in-Some-unquote.ensures.text in (
      join_next c.args.pieces.now c.pieces.at c.in-Some.piece.now c.in-Some-unquote.text.now c.pieces.out.items c.extend_from_slice.new.self.items _ c.in-Some.ensures found c.in_ok-extend_from_slice.ensures.items c.pieces.invariant.0,
      get_inside c.args.pieces.now c.pieces.at c.in-Some.piece.now c.in-Some.ensures,
    )
