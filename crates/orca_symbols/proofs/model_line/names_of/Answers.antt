use Rattle.std.proofs.Common.{ap, sym, ◌∙◌}
use Rattle.macro_meaning.specs.Statements.{symbol_name}
use Rattle.orca_symbols.proofs.Models.{names_next}
use Rattle.orca_symbols.proofs.Parted.{get_inside}
use Rattle.orca_symbols.proofs.model_line.names_of.Goals as goal

pub pieces-preserved : goal.pieces-preserved
pieces-preserved c =
    let found = ap symbol_name (sym c.part.ensures) ∙ sym c.in_ok-name.ensures ∙ c.in-Some-2.is in (
      names_next c.args.pieces.now c.pieces.at c.in-Some.piece.now c.in-Some-2.name c.pieces.names.items c.push.new.self.items _ c.in-Some.ensures found c.in_ok-push.ensures.items c.pieces.invariant.0,
      get_inside c.args.pieces.now c.pieces.at c.in-Some.piece.now c.in-Some.ensures,
    )
